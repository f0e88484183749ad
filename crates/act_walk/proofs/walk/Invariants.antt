-- `act_walk::walk` meets its contract. The loop's invariant: what is left to visit, behind the lines that are written, is the
-- walk. Assumes nothing.
use Rattle.act_walk.specs.Walking.{Walking}
use Rattle.act_walk.proofs.Turns.{Midway}
use Rattle.act_walk.proofs.walk.Given as goal

abbrev pub invariant-loop-left : goal.invariant-loop-left
invariant-loop-left l = (v : Walking l.s l.map l.initial.w) → Midway v l.at l.initial.out l.w l.out l.left l.k l.wrote

abbrev pub decreases-loop-left : goal.decreases-loop-left
decreases-loop-left l = l.left
