-- `row_sound_lists::adds_up` meets its contract: turn by turn. Assumes nothing.
use native.Mathlib.Omega.{arith}
use Rattle.row_sound_lists.proofs.Loops.{each_none, each_on, each_done}
use Rattle.row_sound_lists.proofs.adds_up.Goals as goal

pub loop-i-init : goal.loop-i-init
loop-i-init c = (omega arith, each_none _)

pub loop-i-preserved : goal.loop-i-preserved
loop-i-preserved c = let l = c.loop-i in (omega arith, each_on _ l.i _ _ c.amounts_add-ok.ensures l.invariant.1)

pub returns : goal.returns
returns c = let l = c.loop-i in each_done _ l.i _ _ (omega arith) l.invariant.1
