-- `row_process::set_priority` meets its contract: the second word of its row. Assumes nothing.
use mathlib.Core.Path.{◌∙◌}
use native.Mathlib.Omega.{arith}
use Rattle.row_process.proofs.Standing.{is_long, priority_written}
use Rattle.row_process.specs.Process.{at_first}
use Rattle.row_process.proofs.set_priority.Goals as goal

pub set_word-requires : goal.set_word-requires
set_word-requires c = let v = at_first c.requires in (is_long v, (v.given.lives.in_places, omega arith))

pub returns : goal.returns
returns c = λ d. c.set_word.ensures ∙ priority_written (at_first d) _ d.given.lives.in_places _
