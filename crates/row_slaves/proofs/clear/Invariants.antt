-- `row_slaves::clear` meets its contract. The loop's invariant: up to k the row is its front, and zeros. Assumes nothing.
use Prim.Native.Nat.{◌-◌, ◌≤◌}
use mathlib.Core.Path.{◌≡◌}
use mathlib.Core.List.{◌++◌}
use lib.ListN.{length, take, replicate}
use Rattle.row_slaves.proofs.clear.Given as goal

abbrev pub invariant-loop-k : goal.invariant-loop-k
invariant-loop-k l = (l.from ≤ l.k) × (l.k ≤ length l.row) × (length l.row ≡ length l.initial.row)
    × (take l.k l.row ≡ take l.from l.initial.row ++ replicate (l.k - l.from) 0)

abbrev pub decreases-loop-k : goal.decreases-loop-k
decreases-loop-k l = length l.row - l.k
