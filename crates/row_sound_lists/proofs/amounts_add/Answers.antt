-- `row_sound_lists::amounts_add` meets its contract: the three amounts added. Assumes nothing.
use native.Mathlib.Omega.{arith}
use Rattle.row_sound_lists.proofs.amounts_add.Goals as goal

pub overflow_add-result-2 : goal.overflow_add-result-2
overflow_add-result-2 c = omega (arith, c.held_all.ensures.1, c.requires.0.free_low c.args.i c.requires.1.0)

pub overflow_add-result-3 : goal.overflow_add-result-3
overflow_add-result-3 c = omega (arith, c.held_all.ensures.1, c.returning_all.ensures.1, c.requires.0.free_low c.args.i c.requires.1.0)

pub returns : goal.returns
returns c = rw (c.held_all.ensures.0, c.returning_all.ensures.0)
