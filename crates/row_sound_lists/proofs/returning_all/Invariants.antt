-- `row_sound_lists::returning_all` meets its contract: turn by turn. Assumes nothing.
use Prim.Native.Nat.{◌-◌, ◌*◌, ◌≤◌}
use mathlib.Core.Path.{◌≡◌}
use Rattle.base_numbers.specs.Word as Word
use Rattle.row_sound_lists.specs.Tests.{tally, returning_at}
use Rattle.row_sound_lists.proofs.returning_all.Given as goal

abbrev pub invariant-loop-k : goal.invariant-loop-k
invariant-loop-k l = (l.k ≤ l.n) × (l.found ≤ Word.AMOUNTS * l.k) × (l.found ≡ tally l.k (returning_at l.w l.i))

abbrev pub decreases-loop-k : goal.decreases-loop-k
decreases-loop-k l = l.n - l.k
