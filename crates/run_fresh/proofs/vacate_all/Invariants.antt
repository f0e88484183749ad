-- `run_fresh::vacate_all` meets its contract. The loop's invariant: the places from p on are free. Assumes nothing.
use Prim.Native.Nat.{◌≤◌}
use mathlib.Core.Path.{◌≡◌}
use Rattle.semantics.specs.Numbers as No
use Rattle.run_fresh.proofs.Vacating.{free_from}
use Rattle.run_fresh.proofs.vacate_all.Given as goal

abbrev pub invariant-loop-p : goal.invariant-loop-p
invariant-loop-p l = (l.p ≤ No.places) × (l.w ≡ free_from l.p)

abbrev pub decreases-loop-p : goal.decreases-loop-p
decreases-loop-p l = l.p
