-- `row_sound_lists::rising` meets its contract: each stands right before the next. Assumes nothing.
use native.Mathlib.Omega.{arith}
use mathlib.Core.Path.{refl}
use Rattle.row_sound_lists.proofs.Loops.{each_none, each_on, each_done}
use Rattle.row_sound_lists.proofs.rising.Goals as goal

pub loop-k-init : goal.loop-k-init
loop-k-init c = (omega arith, each_none _)

pub loop-k-preserved : goal.loop-k-preserved
loop-k-preserved c = let l = c.loop-k in (omega arith, each_on _ l.k _ _ refl l.invariant.1)

pub returns : goal.returns
returns c = let l = c.loop-k in each_done _ l.k _ _ (omega arith) l.invariant.1
