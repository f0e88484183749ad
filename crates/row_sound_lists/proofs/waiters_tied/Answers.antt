-- `row_sound_lists::waiters_tied` meets its contract: turn by turn. Assumes nothing.
use native.Mathlib.Omega.{arith}
use Rattle.row_sound_lists.proofs.Loops.{each_none, each_on, each_done}
use Rattle.row_sound_lists.proofs.waiters_tied.Goals as goal

pub loop-k-init : goal.loop-k-init
loop-k-init c = (omega arith, each_none _)

pub loop-k-preserved : goal.loop-k-preserved
loop-k-preserved c = let l = c.loop-k in (omega arith, each_on _ l.k _ _ c.waiter_tied-ok.ensures l.invariant.1)

pub returns : goal.returns
returns c = let l = c.loop-k in each_done _ l.k _ _ (omega arith) l.invariant.1
