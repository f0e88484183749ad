-- `row_view::waiting_fits` meets its contract. The loop's invariant is `Listing`: the test of those passed and of the rest is
-- the whole test. Assumes nothing.
use native.Mathlib.Omega.{arith}
use Rattle.row_view.proofs.Turns.{lists_start, lists_turn, lists_end}
use Rattle.row_view.proofs.waiting_fits.Goals as goal

pub loop-i-init : goal.loop-i-init
loop-i-init c = lists_start _ _ c.requires

pub slice_bounds-row_fits-count : goal.slice_bounds-row_fits-count
slice_bounds-row_fits-count c = omega (arith, c.loop-i.invariant.room)

pub slice_bounds-row_fits-start : goal.slice_bounds-row_fits-start
slice_bounds-row_fits-start c = omega (arith, c.loop-i.invariant.room)

pub slice_bounds-row_fits-end : goal.slice_bounds-row_fits-end
slice_bounds-row_fits-end c = omega (arith, c.loop-i.invariant.room)

pub slice_bounds-rest-count : goal.slice_bounds-rest-count
slice_bounds-rest-count c = omega (arith, c.loop-i.invariant.room)

pub slice_bounds-rest-start : goal.slice_bounds-rest-start
slice_bounds-rest-start c = omega (arith, c.loop-i.invariant.room)

pub slice_bounds-rest-end : goal.slice_bounds-rest-end
slice_bounds-rest-end c = omega (arith, c.loop-i.invariant.room)

pub loop-i-preserved : goal.loop-i-preserved
loop-i-preserved c = lists_turn _ _ c.loop-i.invariant (omega arith) c.row_fits-ok.ensures

pub returns : goal.returns
returns c = lists_end _ _ c.loop-i.invariant (omega arith) c.words_fit.ensures
