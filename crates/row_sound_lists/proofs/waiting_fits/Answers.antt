-- `row_sound_lists::waiting_fits` meets its contract: a row of 64 for each sync. Assumes nothing.
use native.Mathlib.Omega.{arith}
use Rattle.row_sound_lists.proofs.Loops.{each_none, each_on, each_done, waiting_lined}
use Rattle.row_sound_lists.proofs.waiting_fits.Goals as goal

pub loop-i-init : goal.loop-i-init
loop-i-init c = (omega arith, each_none _)

pub queue_fits-ok-requires : goal.queue_fits-ok-requires
queue_fits-ok-requires c = waiting_lined c.requires.0 c.loop-i.i (omega arith)

pub loop-i-preserved : goal.loop-i-preserved
loop-i-preserved c = let l = c.loop-i in (omega arith, each_on _ l.i _ _ c.queue_fits-ok.ensures l.invariant.1)

pub returns : goal.returns
returns c = let l = c.loop-i in each_done _ l.i _ _ (omega arith) l.invariant.1
