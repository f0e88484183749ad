-- `base_ordered::place_below` meets its contract. The loop's invariant: those passed and those that pass the test behind them
-- are the whole answer. Assumes nothing.
use Prim.Native.Nat.{ℕ, ◌+◌, ◌-◌, ◌≤◌}
use lib.Dec.{ltb}
use lib.ListN.{take, drop}
use mathlib.Core.Bool.{Bool}
use mathlib.Core.Path.{◌≡◌}
use Rattle.base_ordered.specs.Lines.{place_of}
use Rattle.base_ordered.proofs.place_below.Given as goal

abbrev below : ℕ → ℕ → Bool
below limit k = ltb k limit

abbrev pub invariant-loop-i : goal.invariant-loop-i
invariant-loop-i l = (l.i ≤ l.len)
    × (l.i + place_of (below l.limit) (drop l.i (take l.len l.row)) ≡ place_of (below l.limit) (take l.len l.row))

abbrev pub decreases-loop-i : goal.decreases-loop-i
decreases-loop-i l = l.len - l.i
