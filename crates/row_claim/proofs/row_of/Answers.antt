-- `row_claim::row_of` meets its contract. Assumes nothing.
use mathlib.Core.Path.{sym}
use native.Mathlib.Omega.{arith}
use Rattle.row_claim.proofs.Items.{else_variables}
use Rattle.row_claim.proofs.row_of.Goals as goal

pub returns-in_default : goal.returns-in_default
returns-in_default c = (sym (else_variables c.args.kind (omega arith)), omega arith)
