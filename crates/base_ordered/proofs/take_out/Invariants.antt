-- `base_ordered::take_out` meets its contract. The loop's invariant: without the place that comes free, the row is what it was
-- without the place that is taken out. Assumes nothing.
use Prim.Native.Nat.{◌≤◌, ◌-◌}
use lib.ListN.{length}
use mathlib.Core.Path.{◌≡◌}
use Rattle.base_ordered.specs.Lines.{removed}
use Rattle.base_ordered.proofs.take_out.Given as goal

abbrev pub invariant-loop-i : goal.invariant-loop-i
invariant-loop-i l = (l.at ≤ l.i) × (l.i ≤ l.last) × (length l.row ≡ length l.initial.row) × (removed l.i l.row ≡ removed l.at l.initial.row)

abbrev pub decreases-loop-i : goal.decreases-loop-i
decreases-loop-i l = l.last - l.i
