-- `row_sound_lists::waiting_fits` meets its contract: a row of 64 for each sync. Assumes nothing.
use Prim.Native.Nat.{◌+◌, ◌-◌, ◌*◌, ◌≤◌}
use mathlib.Core.Path.{◌≡◌}
use Rattle.base_numbers.specs.Row as Row
use Rattle.row_sound_lists.specs.Tests.{each, queue_fits}
use Rattle.row_sound_lists.proofs.waiting_fits.Given as goal

abbrev pub invariant-loop-i : goal.invariant-loop-i
invariant-loop-i l = (l.i ≤ l.syncs) × (l.ok ≡ each l.i (λ j. queue_fits l.w (Row.WAITING + Row.WAITERS_MOST * j) (Row.WAITS + j)))

abbrev pub decreases-loop-i : goal.decreases-loop-i
decreases-loop-i l = l.syncs - l.i
