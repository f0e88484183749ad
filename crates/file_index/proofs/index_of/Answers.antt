-- `file_index::index_of` meets its contract. The loop's invariant is `Indexing`: each array has the front of its table.
-- Assumes nothing.
use native.Mathlib.Omega.{arith}
use Rattle.file_index.proofs.Bodies.{class_head}
use Rattle.file_index.proofs.Indexing.{index_starts, index_turn, index_ends, first_room, place_room, body_room}
use Rattle.file_index.proofs.Indexing.{last_room, first_long, place_long, body_long, actions_few}
use Rattle.file_index.proofs.Records.{step_there, judged_there}
use Rattle.file_index.proofs.index_of.Goals as goal

pub loop-at-init : goal.loop-at-init
loop-at-init c = rw c.first-at.ensures (index_starts c.args.s.now c.requires)

pub overflow_add-at : goal.overflow_add-at
overflow_add-at c = let m = step_there _ _ c.loop-at-test.true c.loop-at.invariant.fine c.read-x.ensures c.next-end.ensures in omega arith

pub slice_bounds-class_body-count : goal.slice_bounds-class_body-count
slice_bounds-class_body-count c = (step_there _ _ c.loop-at-test.true c.loop-at.invariant.fine c.read-x.ensures c.next-end.ensures).far

pub slice_bounds-class_body-start : goal.slice_bounds-class_body-start
slice_bounds-class_body-start c = (step_there _ _ c.loop-at-test.true c.loop-at.invariant.fine c.read-x.ensures c.next-end.ensures).far

pub slice_bounds-class_body-end : goal.slice_bounds-class_body-end
slice_bounds-class_body-end c = (step_there _ _ c.loop-at-test.true c.loop-at.invariant.fine c.read-x.ensures c.next-end.ensures).within

pub class_body-block-requires : goal.class_body-block-requires
class_body-block-requires c = class_head (judged_there _ _ c.loop-at-test.true c.loop-at.invariant.fine c.read-x.ensures c.next-end.ensures)

pub overflow_cast-actions : goal.overflow_cast-actions
overflow_cast-actions c = omega (arith, actions_few c.loop-at.invariant)

pub slice_bounds-noted-end : goal.slice_bounds-noted-end
slice_bounds-noted-end c = first_long c.loop-at.invariant

pub noted-blocks-requires : goal.noted-blocks-requires
noted-blocks-requires c = first_room c.loop-at.invariant c.loop-at-test.true c.read-x.ensures c.next-end.ensures

pub slice_bounds-noted-end-in-loop-at : goal.slice_bounds-noted-end-in-loop-at
slice_bounds-noted-end-in-loop-at c = body_long c.loop-at.invariant

pub noted-classes-requires : goal.noted-classes-requires
noted-classes-requires c = body_room c.loop-at.invariant c.loop-at-test.true c.read-x.ensures c.next-end.ensures c.class_body-block.ensures

pub overflow_cast-at : goal.overflow_cast-at
overflow_cast-at c = omega (
  arith,
  c.loop-at-test.true,
  c.requires.short,
)

pub slice_bounds-noted-end-in-loop-at-2 : goal.slice_bounds-noted-end-in-loop-at-2
slice_bounds-noted-end-in-loop-at-2 c = place_long c.loop-at.invariant

pub noted-actions-requires : goal.noted-actions-requires
noted-actions-requires c = place_room c.loop-at.invariant c.loop-at-test.true c.read-x.ensures c.next-end.ensures

pub loop-at-smaller : goal.loop-at-smaller
loop-at-smaller c = let m = step_there _ _ c.loop-at-test.true c.loop-at.invariant.fine c.read-x.ensures c.next-end.ensures in omega arith

pub loop-at-preserved : goal.loop-at-preserved
loop-at-preserved c = rw (
  c.noted-blocks.ensures.next_is,
  c.noted-blocks.ensures.after_is,
  c.noted-classes.ensures.next_is,
  c.noted-classes.ensures.after_is,
  c.noted-actions.ensures.next_is,
  c.noted-actions.ensures.after_is,
)
    (index_turn c.loop-at.invariant c.loop-at-test.true c.read-x.ensures c.next-end.ensures c.class_body-block.ensures)

pub overflow_cast-first : goal.overflow_cast-first
overflow_cast-first c = omega (arith, actions_few c.loop-at.invariant)

pub offset_bounds-first-blocks : goal.offset_bounds-first-blocks
offset_bounds-first-blocks c = omega (arith, last_room c.loop-at.invariant (omega (arith, c.loop-at-test.false)))

pub bounds-first-blocks : goal.bounds-first-blocks
bounds-first-blocks c = omega (arith, last_room c.loop-at.invariant (omega (arith, c.loop-at-test.false)))

pub returns : goal.returns
returns c = index_ends c.loop-at.invariant (omega (arith, c.loop-at-test.false))
