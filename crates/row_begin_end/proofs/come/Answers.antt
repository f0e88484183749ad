-- `row_begin_end::come` meets its contract: the row of the lowest free place is changed, and who lives. Assumes nothing.
use native.Mathlib.Omega.{arith}
use Rattle.row_begin_end.proofs.Standing.{come_long, lowest_free, in_places, vacant, came_long, came}
use Rattle.row_begin_end.proofs.come.Goals as goal

pub bounds-w-4 : goal.bounds-w-4
bounds-w-4 c = omega (arith, come_long c.args.n c.args.b c.requires)

pub slice_bounds-furnish-end : goal.slice_bounds-furnish-end
slice_bounds-furnish-end c = let p = c.free_place-p in
    let h = come_long c.args.n c.args.b c.requires in
    omega (arith, in_places c.args.n c.args.b c.requires p.ensures.0)

pub furnish-requires : goal.furnish-requires
furnish-requires c = vacant c.args.n c.args.b c.requires c.free_place-p.ensures.0

pub with_place-requires : goal.with_place-requires
with_place-requires c = in_places c.args.n c.args.b c.requires c.free_place-p.ensures.0

pub bounds-w-4-2 : goal.bounds-w-4-2
bounds-w-4-2 c = let p = c.free_place-p in
    omega (arith, came_long c.args.n c.args.b c.requires p.ensures.0 c.furnish.ensures)

pub returns : goal.returns
returns c = let p = c.free_place-p in record {
  done = (λ d. came c.args.n c.args.b d p.ensures.0 c.furnish.ensures c.with_place.ensures);
  answers = (λ d. lowest_free c.args.n c.args.b d p.ensures.0);
}
