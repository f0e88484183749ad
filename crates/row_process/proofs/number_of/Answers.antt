-- `row_process::number_of` meets its contract: the first word of its row. Assumes nothing.
use mathlib.Core.Path.{◌∙◌}
use native.Mathlib.Omega.{arith}
use Rattle.row_process.proofs.Standing.{is_long, number_is}
use Rattle.row_process.proofs.number_of.Goals as goal

pub word-requires : goal.word-requires
word-requires c = (is_long c.requires, (c.requires.given, omega arith))

pub returns : goal.returns
returns c = λ v. c.word.ensures ∙ number_is v _ v.given
