-- `run_limit::run` meets its contract. The loop's invariant: what is left of the run is a run from the state now. Assumes
-- nothing.
use Prim.Native.Nat.{◌-◌}
use mathlib.Core.Path.{◌≡◌}
use lib.ListN.{length}
use Rattle.act_floor.specs.Acting.{Open}
use Rattle.run_limit.proofs.Turns.{Sofar}
use Rattle.run_limit.proofs.run.Given as goal

abbrev pub invariant-loop-steps : goal.invariant-loop-steps
invariant-loop-steps l = (length l.w ≡ length l.initial.w)
    × ((length l.journal ≡ length l.initial.journal) × ((v : Open l.s l.map l.initial.w) → Sofar v l.limit l.initial.journal l.w l.journal l.steps l.lines))

abbrev pub decreases-loop-steps : goal.decreases-loop-steps
decreases-loop-steps l = l.limit - l.steps
