-- `row_view::processes_fit` meets its contract. The loop's invariant is `Placing`: the test of those passed and of the rest is
-- the whole test. Assumes nothing.
use native.Mathlib.Omega.{arith}
use Rattle.row_view.proofs.Turns.{places_start, places_turn, row_there, places_end}
use Rattle.row_view.proofs.processes_fit.Goals as goal

pub loop-left-init : goal.loop-left-init
loop-left-init c = places_start _ _ _ c.requires

pub slice_bounds-place_fits-count : goal.slice_bounds-place_fits-count
slice_bounds-place_fits-count c = omega (arith, c.loop-left.invariant.long)

pub slice_bounds-place_fits-start : goal.slice_bounds-place_fits-start
slice_bounds-place_fits-start c = omega (arith, c.loop-left.invariant.long)

pub slice_bounds-place_fits-end : goal.slice_bounds-place_fits-end
slice_bounds-place_fits-end c = omega (arith, c.loop-left.invariant.long)

pub place_fits-ok-requires : goal.place_fits-ok-requires
place_fits-ok-requires c = row_there _ _ _ c.loop-left.invariant (omega arith)

pub slice_bounds-rest-count : goal.slice_bounds-rest-count
slice_bounds-rest-count c = omega (arith, c.loop-left.invariant.long)

pub slice_bounds-rest-start : goal.slice_bounds-rest-start
slice_bounds-rest-start c = omega (arith, c.loop-left.invariant.long)

pub slice_bounds-rest-end : goal.slice_bounds-rest-end
slice_bounds-rest-end c = omega (arith, c.loop-left.invariant.long)

pub loop-left-preserved : goal.loop-left-preserved
loop-left-preserved c = places_turn _ _ _ c.loop-left.invariant (omega arith) c.place_fits-ok.ensures

pub returns : goal.returns
returns c = places_end _ _ _ c.loop-left.invariant (omega arith)
