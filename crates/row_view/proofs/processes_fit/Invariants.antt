-- `row_view::processes_fit` meets its contract. The loop's invariant is `Placing`: the test of those passed and of the rest is
-- the whole test. Assumes nothing.
use Rattle.row_view.proofs.Turns.{Placing}
use Rattle.row_view.proofs.processes_fit.Given as goal

abbrev pub invariant-loop-left : goal.invariant-loop-left
invariant-loop-left l = Placing l.resources l.rows l.living l.ok l.digits l.left l.rest

abbrev pub decreases-loop-left : goal.decreases-loop-left
decreases-loop-left l = l.left
