-- `row_begin_end::vacate` meets its contract: what it writes is all that one who leaves has in its row. Assumes nothing.
use native.Mathlib.Omega.{arith}
use lib.ListN.{length-set}
use Rattle.row_begin_end.proofs.Rows.{leaving_long, vacated_long, vacated}
use Rattle.row_begin_end.proofs.vacate.Goals as goal

pub slice_bounds-fill-end : goal.slice_bounds-fill-end
slice_bounds-fill-end c = omega (arith, leaving_long c.requires)

pub bounds-row-1 : goal.bounds-row-1
bounds-row-1 c = omega (arith, vacated_long c.requires c.fill.ensures)

pub bounds-row-44 : goal.bounds-row-44
bounds-row-44 c = let h = vacated_long c.requires c.fill.ensures in
    simp length-set (omega arith)

pub returns : goal.returns
returns c = vacated c.requires c.fill.ensures
