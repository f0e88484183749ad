-- `row_slaves::count_of` meets its contract. The loop's invariant: those found and those to be found behind are the whole
-- answer. Assumes nothing.
use Prim.Native.Nat.{◌+◌, ◌-◌, ◌≤◌}
use mathlib.Core.Path.{◌≡◌}
use Rattle.row_slaves.specs.Slaves.{owned_of, slaves_from}
use Rattle.row_slaves.proofs.count_of.Given as goal

abbrev pub invariant-loop-k : goal.invariant-loop-k
invariant-loop-k l = (l.k ≤ l.len) × (l.found ≤ l.k)
    × (l.found + owned_of l.i (slaves_from l.k l.len l.row) ≡ owned_of l.i (slaves_from 0 l.len l.row))

abbrev pub decreases-loop-k : goal.decreases-loop-k
decreases-loop-k l = l.len - l.k
