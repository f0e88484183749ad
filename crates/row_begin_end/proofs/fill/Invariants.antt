-- `row_begin_end::fill` meets its contract. The loop's invariant: with what is left to write, the row is the whole one.
-- Assumes nothing.
use Prim.Native.Nat.{◌-◌, ◌≤◌}
use mathlib.Core.Path.{◌≡◌}
use lib.ListN.{length, replicate}
use lib.Seq.{sets}
use Rattle.row_begin_end.proofs.fill.Given as goal

abbrev pub invariant-loop-i : goal.invariant-loop-i
invariant-loop-i l = (length l.row ≡ length l.initial.row)
    × ((l.i ≤ length l.row) × (sets l.row l.i (replicate (length l.initial.row - l.i) l.v) ≡ replicate (length l.initial.row) l.v))

abbrev pub decreases-loop-i : goal.decreases-loop-i
decreases-loop-i l = length l.row - l.i
