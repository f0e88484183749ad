-- `row_sound_lists::in_one` meets its contract: turn by turn. Assumes nothing.
use Prim.Native.Nat.{◌-◌, ◌≤◌}
use mathlib.Core.Path.{◌≡◌}
use Rattle.semantics.specs.Numbers as No
use Rattle.row_sound_lists.specs.Tests.{each, place_listed}
use Rattle.row_sound_lists.proofs.in_one.Given as goal

abbrev pub invariant-loop-p : goal.invariant-loop-p
invariant-loop-p l = (l.p ≤ No.places) × (l.ok ≡ each l.p (place_listed l.w l.syncs))

abbrev pub decreases-loop-p : goal.decreases-loop-p
decreases-loop-p l = No.places - l.p
