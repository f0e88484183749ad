-- `row_sound_lists::in_waiting` meets its contract: a row of 64 for each sync. Assumes nothing.
use Prim.Native.Nat.{◌+◌, ◌-◌, ◌*◌, ◌≤◌}
use mathlib.Core.Path.{◌≡◌}
use Rattle.base_numbers.specs.Row as Row
use Rattle.row_sound_lists.specs.Tests.{tally, in_queue}
use Rattle.row_sound_lists.proofs.in_waiting.Given as goal

abbrev pub invariant-loop-i : goal.invariant-loop-i
invariant-loop-i l = (l.i ≤ l.syncs) × (l.found ≤ Row.WAITERS_MOST * l.i) × (l.found
    ≡ tally l.i (λ j. in_queue l.w (Row.WAITING + Row.WAITERS_MOST * j) (Row.WAITS + j) l.p))

abbrev pub decreases-loop-i : goal.decreases-loop-i
decreases-loop-i l = l.syncs - l.i
