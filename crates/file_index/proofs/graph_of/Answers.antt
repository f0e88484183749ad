-- `file_index::graph_of` meets its contract. The loop's invariant is `Graphing`: each array has the front of its table.
-- Assumes nothing.
use native.Mathlib.Omega.{arith}
use Rattle.file_index.proofs.Bodies.{do_head}
use Rattle.file_index.proofs.Graphing.{graph_starts, graph_turn, graph_ends, own_room, times_room, from_room}
use Rattle.file_index.proofs.Graphing.{goes_room, last_room, own_long, times_long, from_long, goes_long, ends_few}
use Rattle.file_index.proofs.Records.{step_there, judged_there}
use Rattle.file_index.proofs.graph_of.Goals as goal

pub loop-at-init : goal.loop-at-init
loop-at-init c = rw c.first-at.ensures (graph_starts c.args.s.now c.args.start c.args.body c.requires)

pub overflow_add-bs : goal.overflow_add-bs
overflow_add-bs c = let m = step_there _ _ c.loop-at-test.true c.loop-at.invariant.fine c.read-x.ensures c.next-end.ensures in omega arith

pub slice_bounds-bs-count : goal.slice_bounds-bs-count
slice_bounds-bs-count c = (step_there _ _ c.loop-at-test.true c.loop-at.invariant.fine c.read-x.ensures c.next-end.ensures).far

pub slice_bounds-bs-start : goal.slice_bounds-bs-start
slice_bounds-bs-start c = (step_there _ _ c.loop-at-test.true c.loop-at.invariant.fine c.read-x.ensures c.next-end.ensures).far

pub slice_bounds-bs-end : goal.slice_bounds-bs-end
slice_bounds-bs-end c = (step_there _ _ c.loop-at-test.true c.loop-at.invariant.fine c.read-x.ensures c.next-end.ensures).within

pub slice_bounds-noted-end : goal.slice_bounds-noted-end
slice_bounds-noted-end c = own_long c.loop-at.invariant

pub noted-requires : goal.noted-requires
noted-requires c = own_room c.loop-at.invariant c.loop-at-test.true c.read-x.ensures c.next-end.ensures c.own_weight.ensures

pub times_of-requires : goal.times_of-requires
times_of-requires c = do_head (judged_there _ _ c.loop-at-test.true c.loop-at.invariant.fine c.read-x.ensures c.next-end.ensures)

pub slice_bounds-noted-end-in-loop-at : goal.slice_bounds-noted-end-in-loop-at
slice_bounds-noted-end-in-loop-at c = times_long c.loop-at.invariant

pub noted-requires-in-loop-at : goal.noted-requires-in-loop-at
noted-requires-in-loop-at c = times_room c.loop-at.invariant c.loop-at-test.true c.read-x.ensures c.next-end.ensures c.times_of.ensures

pub overflow_cast-ends : goal.overflow_cast-ends
overflow_cast-ends c = omega (
  arith,
  ends_few c.loop-at.invariant,
)

pub slice_bounds-noted-end-in-loop-at-2 : goal.slice_bounds-noted-end-in-loop-at-2
slice_bounds-noted-end-in-loop-at-2 c = from_long c.loop-at.invariant

pub noted-actions-requires : goal.noted-actions-requires
noted-actions-requires c = from_room c.loop-at.invariant c.loop-at-test.true c.read-x.ensures c.next-end.ensures

pub slice_bounds-named-end : goal.slice_bounds-named-end
slice_bounds-named-end c = goes_long c.loop-at.invariant

pub named-ends-requires : goal.named-ends-requires
named-ends-requires c = record {
  judged = judged_there _ _ c.loop-at-test.true c.loop-at.invariant.fine c.read-x.ensures c.next-end.ensures;
  bs_in_bounds = goes_room c.loop-at.invariant c.loop-at-test.true c.read-x.ensures c.next-end.ensures;
}

pub loop-at-smaller : goal.loop-at-smaller
loop-at-smaller c = let m = step_there _ _ c.loop-at-test.true c.loop-at.invariant.fine c.read-x.ensures c.next-end.ensures in omega arith

pub loop-at-preserved : goal.loop-at-preserved
loop-at-preserved c = rw (
  c.noted.ensures.after_is,
  c.noted-in-loop-at.ensures.after_is,
  c.noted-actions.ensures.next_is,
  c.noted-actions.ensures.after_is,
  c.named-ends.ensures.next_is,
  c.named-ends.ensures.after_is,
)
    (graph_turn c.loop-at.invariant c.loop-at-test.true c.read-x.ensures c.next-end.ensures
    c.own_weight.ensures c.times_of.ensures)

pub overflow_cast-from : goal.overflow_cast-from
overflow_cast-from c = omega (arith, ends_few c.loop-at.invariant)

pub offset_bounds-from-actions : goal.offset_bounds-from-actions
offset_bounds-from-actions c = omega (arith, last_room c.loop-at.invariant (omega (arith, c.loop-at-test.false)))

pub bounds-from-actions : goal.bounds-from-actions
bounds-from-actions c = omega (arith, last_room c.loop-at.invariant (omega (arith, c.loop-at-test.false)))

pub returns : goal.returns
returns c = graph_ends c.loop-at.invariant (omega (arith, c.loop-at-test.false))
