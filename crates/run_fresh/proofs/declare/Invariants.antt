-- `run_fresh::declare` meets its contract. The loop's invariant is `Declared`: the first of each are written.
-- Assumes nothing.
use Prim.Native.Nat.{◌-◌}
use lib.ListN.{length}
use Rattle.run_fresh.specs.Fresh.{Declaring}
use Rattle.run_fresh.proofs.Declaring.{Declared}
use Rattle.run_fresh.proofs.declare.Given as goal

abbrev pub invariant-loop-at : goal.invariant-loop-at
invariant-loop-at l = (d : Declaring l.s l.initial.w) → Declared d.model l.s l.w l.free l.bins l.vars l.seeds l.at

abbrev pub decreases-loop-at : goal.decreases-loop-at
decreases-loop-at l = length l.s - l.at
