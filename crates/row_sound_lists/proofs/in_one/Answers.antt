-- `row_sound_lists::in_one` meets its contract: turn by turn. Assumes nothing.
use native.Mathlib.Omega.{arith}
use Rattle.row_sound_lists.proofs.Loops.{each_none, each_on, each_done}
use Rattle.row_sound_lists.proofs.in_one.Goals as goal

pub loop-p-init : goal.loop-p-init
loop-p-init c = (omega arith, each_none _)

pub loop-p-preserved : goal.loop-p-preserved
loop-p-preserved c = let l = c.loop-p in (omega arith, each_on _ l.p _ _ c.place_listed-ok.ensures l.invariant.1)

pub returns : goal.returns
returns c = let l = c.loop-p in each_done _ l.p _ _ (omega arith) l.invariant.1
