-- `row_sound_lists::places_fit` meets its contract: turn by turn. Assumes nothing.
use Prim.Native.Nat.{◌-◌, ◌≤◌}
use mathlib.Core.Path.{◌≡◌}
use Rattle.semantics.specs.Numbers as No
use Rattle.row_sound_lists.specs.Tests.{each, place_fits}
use Rattle.row_sound_lists.proofs.places_fit.Given as goal

abbrev pub invariant-loop-p : goal.invariant-loop-p
invariant-loop-p l = (l.p ≤ No.places) × (l.ok ≡ each l.p (place_fits l.w l.syncs))

abbrev pub decreases-loop-p : goal.decreases-loop-p
decreases-loop-p l = No.places - l.p
