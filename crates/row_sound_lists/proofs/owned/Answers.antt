-- `row_sound_lists::owned` meets its contract: turn by turn. Assumes nothing.
use native.Mathlib.Omega.{arith}
use Rattle.row_sound_lists.proofs.Loops.{tally_none, tally_on, tally_done}
use Rattle.row_sound_lists.proofs.owned.Goals as goal

pub loop-q-init : goal.loop-q-init
loop-q-init c = (omega arith, omega arith, tally_none _)

pub overflow_add-found : goal.overflow_add-found
overflow_add-found c = omega (arith, c.in_slaves-found.ensures.1)

pub loop-q-preserved : goal.loop-q-preserved
loop-q-preserved c = let l = c.loop-q in
    (omega arith, omega (arith, c.in_slaves-found.ensures.1), tally_on _ l.q _ _ c.in_slaves-found.ensures.0 l.invariant.2)

pub returns : goal.returns
returns c = let l = c.loop-q in (tally_done _ l.q _ _ (omega arith) l.invariant.2, omega arith)
