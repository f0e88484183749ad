-- `row_begin_end::furnish` meets its contract: what it writes is all that tells a newcomer's row from a free one.
-- Assumes nothing.
use native.Mathlib.Omega.{arith}
use lib.ListN.{length-set}
use Rattle.row_begin_end.proofs.Rows.{vacant_long, named_long, furnished_long, furnished}
use Rattle.row_begin_end.proofs.furnish.Goals as goal

pub bounds-row-0 : goal.bounds-row-0
bounds-row-0 c = omega (arith, vacant_long c.requires c.args.n)

pub bounds-row-2 : goal.bounds-row-2
bounds-row-2 c = let h = vacant_long c.requires c.args.n in simp length-set (omega arith)

pub slice_bounds-fill-end : goal.slice_bounds-fill-end
slice_bounds-fill-end c = omega (arith, named_long c.requires c.args.n)

pub bounds-row-44 : goal.bounds-row-44
bounds-row-44 c = omega (arith, furnished_long c.requires c.args.n c.fill.ensures)

pub returns : goal.returns
returns c = furnished c.requires c.args.n c.fill.ensures
