-- `text_list::write_blank`: so many cells hold the blank. Assumes nothing.
use Rattle.std.specs.Prelude.{◌≡◌, ◌++◌, drop, replicate}
use Rattle.text_list.proofs.write_blank.Given as goal

abbrev pub invariant-loop-i : goal.invariant-loop-i
invariant-loop-i g l = l.cells ≡ replicate l.i l.blank ++ drop l.i l.fn.cells
