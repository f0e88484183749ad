-- `base_ordered::count_returns` meets its contract. The loop's invariant: those found and those to be found behind are the whole
-- answer. Assumes nothing.
use Prim.Native.Nat.{ℕ, ◌+◌, ◌-◌, ◌≤◌}
use lib.Dec.{ltb}
use lib.ListN.{length, take, drop}
use mathlib.Core.Bool.{Bool}
use mathlib.Core.Path.{◌≡◌}
use Rattle.base_ordered.specs.Lines.{kind_of}
use Rattle.semantics.specs.Words.{keep}
use Rattle.base_ordered.proofs.count_returns.Given as goal

abbrev is_returned : ℕ → Bool
is_returned d = ltb 0 (kind_of d)

abbrev pub invariant-loop-i : goal.invariant-loop-i
invariant-loop-i l = (l.i ≤ l.len) × (l.found ≤ l.i)
    × (l.found + length (keep is_returned (drop l.i (take l.len l.words))) ≡ length (keep is_returned (take l.len l.words)))

abbrev pub decreases-loop-i : goal.decreases-loop-i
decreases-loop-i l = l.len - l.i
