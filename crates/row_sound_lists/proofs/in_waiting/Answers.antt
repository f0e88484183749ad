-- `row_sound_lists::in_waiting` meets its contract: a row of 64 for each sync. Assumes nothing.
use native.Mathlib.Omega.{arith}
use Rattle.row_sound_lists.proofs.Loops.{tally_none, tally_on, tally_done, waiting_lined}
use Rattle.row_sound_lists.proofs.in_waiting.Goals as goal

pub loop-i-init : goal.loop-i-init
loop-i-init c = (omega arith, omega arith, tally_none _)

pub in_queue-found-requires : goal.in_queue-found-requires
in_queue-found-requires c = waiting_lined c.requires.0 c.loop-i.i (omega arith)

pub overflow_add-found : goal.overflow_add-found
overflow_add-found c = omega (arith, c.in_queue-found.ensures.1)

pub loop-i-preserved : goal.loop-i-preserved
loop-i-preserved c = let l = c.loop-i in
    (omega arith, omega (arith, c.in_queue-found.ensures.1), tally_on _ l.i _ _ c.in_queue-found.ensures.0 l.invariant.2)

pub returns : goal.returns
returns c = let l = c.loop-i in (tally_done _ l.i _ _ (omega arith) l.invariant.2, omega arith)
