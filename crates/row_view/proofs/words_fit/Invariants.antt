-- `row_view::words_fit` meets its contract. The loop's invariant is `Walked`: the test of those passed and of the rest is the
-- whole test. Assumes nothing.
use Prim.Native.Nat.{◌-◌}
use lib.ListN.{length}
use Rattle.row_view.specs.Fits.{passes}
use Rattle.row_view.proofs.Walks.{Walked}
use Rattle.row_view.proofs.words_fit.Given as goal

abbrev pub invariant-loop-i : goal.invariant-loop-i
invariant-loop-i l = Walked (passes l.rule) l.row l.ok l.i

abbrev pub decreases-loop-i : goal.decreases-loop-i
decreases-loop-i l = length l.row - l.i
