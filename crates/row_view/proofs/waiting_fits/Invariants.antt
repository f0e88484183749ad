-- `row_view::waiting_fits` meets its contract. The loop's invariant is `Listing`: the test of those passed and of the rest is
-- the whole test. Assumes nothing.
use Prim.Native.Nat.{◌-◌}
use lib.ListN.{length}
use Rattle.row_view.proofs.Turns.{Listing}
use Rattle.row_view.proofs.waiting_fits.Given as goal

abbrev pub invariant-loop-i : goal.invariant-loop-i
invariant-loop-i l = Listing l.counts l.lists l.ok l.i l.rest

abbrev pub decreases-loop-i : goal.decreases-loop-i
decreases-loop-i l = length l.counts - l.i
