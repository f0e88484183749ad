-- `row_sound_lists::each_event_fits` meets its contract: turn by turn. Assumes nothing.
use Prim.Native.Nat.{◌-◌, ◌≤◌}
use mathlib.Core.Path.{◌≡◌}
use Rattle.row_sound_lists.specs.Tests.{each, event_fits}
use Rattle.row_sound_lists.proofs.each_event_fits.Given as goal

abbrev pub invariant-loop-k : goal.invariant-loop-k
invariant-loop-k l = (l.k ≤ l.n) × (l.ok ≡ each l.k (event_fits l.w l.resources l.bins))

abbrev pub decreases-loop-k : goal.decreases-loop-k
decreases-loop-k l = l.n - l.k
