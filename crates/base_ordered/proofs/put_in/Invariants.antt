-- `base_ordered::put_in` meets its contract. The loop's invariant: without the place that comes free, the row is what it was
-- without its first unused place. Assumes nothing.
use Prim.Native.Nat.{◌≤◌}
use lib.ListN.{length}
use mathlib.Core.Path.{◌≡◌}
use Rattle.base_ordered.specs.Lines.{removed}
use Rattle.base_ordered.proofs.put_in.Given as goal

abbrev pub invariant-loop-i : goal.invariant-loop-i
invariant-loop-i l = (l.at ≤ l.i) × (l.i ≤ l.len) × (length l.row ≡ length l.initial.row) × (removed l.i l.row ≡ removed l.len l.initial.row)

abbrev pub decreases-loop-i : goal.decreases-loop-i
decreases-loop-i l = l.i
