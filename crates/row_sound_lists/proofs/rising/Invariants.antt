-- `row_sound_lists::rising` meets its contract: each stands right before the next. Assumes nothing.
use Prim.Native.Nat.{◌-◌, ◌≤◌}
use mathlib.Core.Path.{◌≡◌}
use Rattle.row_sound_lists.specs.Tests.{each, rises}
use Rattle.row_sound_lists.proofs.rising.Given as goal

abbrev pub invariant-loop-k : goal.invariant-loop-k
invariant-loop-k l = (l.k ≤ l.n - 1) × (l.ok ≡ each l.k (rises l.w l.from l.by))

abbrev pub decreases-loop-k : goal.decreases-loop-k
decreases-loop-k l = l.n - l.k
