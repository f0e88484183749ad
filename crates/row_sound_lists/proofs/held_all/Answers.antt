-- `row_sound_lists::held_all` meets its contract: turn by turn. Assumes nothing.
use native.Mathlib.Omega.{arith}
use Rattle.row_sound_lists.proofs.Loops.{tally_none, tally_on, tally_done}
use Rattle.row_sound_lists.proofs.held_all.Goals as goal

pub loop-q-init : goal.loop-q-init
loop-q-init c = (omega arith, omega arith, tally_none _)

pub overflow_add-found : goal.overflow_add-found
overflow_add-found c = let l = c.loop-q in
    omega (arith, c.word-found.ensures, c.requires.0.held_low l.q c.args.i (omega arith) (omega arith))

pub loop-q-preserved : goal.loop-q-preserved
loop-q-preserved c = let l = c.loop-q in (
  omega arith,
  omega (arith, c.word-found.ensures, c.requires.0.held_low l.q c.args.i (omega arith) (omega arith)),
  tally_on _ l.q _ _ c.word-found.ensures l.invariant.2,
)

pub returns : goal.returns
returns c = let l = c.loop-q in (tally_done _ l.q _ _ (omega arith) l.invariant.2, omega arith)
