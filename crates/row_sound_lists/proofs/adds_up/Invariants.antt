-- `row_sound_lists::adds_up` meets its contract: turn by turn. Assumes nothing.
use Prim.Native.Nat.{◌-◌, ◌≤◌}
use mathlib.Core.Path.{◌≡◌}
use Rattle.row_sound_lists.specs.Tests.{each, amounts_add}
use Rattle.row_sound_lists.proofs.adds_up.Given as goal

abbrev pub invariant-loop-i : goal.invariant-loop-i
invariant-loop-i l = (l.i ≤ l.resources) × (l.ok ≡ each l.i (amounts_add l.w l.totals))

abbrev pub decreases-loop-i : goal.decreases-loop-i
decreases-loop-i l = l.resources - l.i
