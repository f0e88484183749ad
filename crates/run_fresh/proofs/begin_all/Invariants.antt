-- `run_fresh::begin_all` meets its contract. The loop's invariant is `Running`: with the entities that are left the run is
-- fresh. Assumes nothing.
use Prim.Native.Nat.{◌-◌}
use lib.ListN.{length}
use Rattle.run_fresh.specs.Fresh.{Beginning}
use Rattle.run_fresh.proofs.Running.{Running}
use Rattle.run_fresh.proofs.begin_all.Given as goal

abbrev pub invariant-loop-at : goal.invariant-loop-at
invariant-loop-at l = (d : Beginning l.s l.map l.initial.w) → Running d.model l.s l.w l.at

abbrev pub decreases-loop-at : goal.decreases-loop-at
decreases-loop-at l = length l.s - l.at
