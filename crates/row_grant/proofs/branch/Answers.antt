-- `row_grant::branch` meets its contract: where none is met it stays, barred or not. Assumes nothing.
use mathlib.Core.Path.{sym, ◌∙◌}
use Rattle.row_grant.proofs.Facing.{asking, barred_stays, none_taken, first_goes}
use Rattle.row_grant.proofs.branch.Goals as goal

pub first_met-first-requires : goal.first_met-first-requires
first_met-first-requires c = asking c.requires

pub returns-in_default : goal.returns-in_default
returns-in_default c = λ v. none_taken v c.first_met-first.ensures c.in_default.is

pub returns-then-barred : goal.returns-then-barred
returns-then-barred c = λ v. barred_stays v (sym c.if-barred.true ∙ c.barred.ensures v)

pub returns : goal.returns
returns c = λ v.
    first_goes v c.first_met-first.ensures c.in-Goes.is
    (sym c.if-barred.false ∙ c.barred.ensures v)
