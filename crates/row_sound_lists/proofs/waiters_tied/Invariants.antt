-- `row_sound_lists::waiters_tied` meets its contract: turn by turn. Assumes nothing.
use Prim.Native.Nat.{◌+◌, ◌-◌, ◌≤◌}
use mathlib.Core.Path.{◌≡◌}
use lib.ListN.{get_or}
use Rattle.row_sound_lists.specs.Tests.{each, tied}
use Rattle.row_sound_lists.proofs.waiters_tied.Given as goal

abbrev pub invariant-loop-k : goal.invariant-loop-k
invariant-loop-k l = (l.k ≤ l.n) × (l.ok ≡ each l.k (λ j. tied l.w (get_or l.w (l.from + j) 0)))

abbrev pub decreases-loop-k : goal.decreases-loop-k
decreases-loop-k l = l.n - l.k
