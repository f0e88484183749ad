-- `row_begin_end::end` meets its contract: the row of the place is changed, and who lives. Assumes nothing.
use native.Mathlib.Omega.{arith}
use Rattle.row_begin_end.proofs.Standing.{end_long, leaving, ended_long, ended}
use Rattle.row_begin_end.proofs.end.Goals as goal

pub bounds-w-4 : goal.bounds-w-4
bounds-w-4 c = omega (arith, end_long c.requires)

pub slice_bounds-vacate-end : goal.slice_bounds-vacate-end
slice_bounds-vacate-end c = omega (arith, end_long c.requires, c.requires.given.in_places)

pub vacate-requires : goal.vacate-requires
vacate-requires c = leaving c.requires

pub without_place-requires : goal.without_place-requires
without_place-requires c = c.requires.given.in_places

pub bounds-w-4-2 : goal.bounds-w-4-2
bounds-w-4-2 c = omega (arith, ended_long c.requires c.vacate.ensures)

pub returns : goal.returns
returns c = λ d. ended d c.vacate.ensures c.without_place.ensures
