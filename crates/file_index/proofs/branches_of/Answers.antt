-- `file_index::branches_of` meets its contract. The loop's invariant is `Branching`: each array has the front of its table.
-- Assumes nothing.
use native.Mathlib.Omega.{arith}
use Rattle.file_index.proofs.Branching.{branches_start, branches_turn, branches_end, body_in, from_room}
use Rattle.file_index.proofs.Branching.{rows_roomy, last_room, from_long, claim_long, resources_long, bins_long}
use Rattle.file_index.proofs.Branching.{syncs_long, ends_few}
use Rattle.file_index.proofs.Records.{step_there, judged_there}
use Rattle.file_index.specs.Branches.{Rows, rows}
use Rattle.file_index.proofs.branches_of.Goals as goal

pub loop-at-init : goal.loop-at-init
loop-at-init c = rw c.first-at.ensures (branches_start c.args.s.now c.requires)

pub overflow_add-start : goal.overflow_add-start
overflow_add-start c = let m = step_there _ _ c.loop-at-test.true c.loop-at.invariant.fine c.read-x.ensures c.next-end.ensures in omega arith

pub slice_bounds-bs-count : goal.slice_bounds-bs-count
slice_bounds-bs-count c = (step_there _ _ c.loop-at-test.true c.loop-at.invariant.fine c.read-x.ensures c.next-end.ensures).far

pub slice_bounds-bs-start : goal.slice_bounds-bs-start
slice_bounds-bs-start c = (step_there _ _ c.loop-at-test.true c.loop-at.invariant.fine c.read-x.ensures c.next-end.ensures).far

pub slice_bounds-bs-end : goal.slice_bounds-bs-end
slice_bounds-bs-end c = (step_there _ _ c.loop-at-test.true c.loop-at.invariant.fine c.read-x.ensures c.next-end.ensures).within

pub overflow_cast-ends : goal.overflow_cast-ends
overflow_cast-ends c = omega (arith, ends_few c.loop-at.invariant)

pub slice_bounds-noted-end : goal.slice_bounds-noted-end
slice_bounds-noted-end c = from_long c.loop-at.invariant

pub noted-actions-requires : goal.noted-actions-requires
noted-actions-requires c = from_room c.loop-at.invariant c.loop-at-test.true c.read-x.ensures c.next-end.ensures

pub slice_bounds-branches_noted-end : goal.slice_bounds-branches_noted-end
slice_bounds-branches_noted-end c = claim_long c.loop-at.invariant

pub slice_bounds-branches_noted-end-in-loop-at : goal.slice_bounds-branches_noted-end-in-loop-at
slice_bounds-branches_noted-end-in-loop-at c = resources_long c.loop-at.invariant

pub slice_bounds-branches_noted-end-in-loop-at-2 : goal.slice_bounds-branches_noted-end-in-loop-at-2
slice_bounds-branches_noted-end-in-loop-at-2 c = bins_long c.loop-at.invariant

pub slice_bounds-branches_noted-end-in-loop-at-3 : goal.slice_bounds-branches_noted-end-in-loop-at-3
slice_bounds-branches_noted-end-in-loop-at-3 c = syncs_long c.loop-at.invariant

pub branches_noted-ends-requires : goal.branches_noted-ends-requires
branches_noted-ends-requires c = let e = c.read-x.ensures in
    let i = c.next-end.ensures in
    let t = c.loop-at-test.true in
    let x = c.loop-at.invariant in record {
      judged = judged_there _ _ t x.fine e i;
      bs_bound = body_in x t e i;
      roomy = rows_roomy x t e i;
    }

pub loop-at-smaller : goal.loop-at-smaller
loop-at-smaller c = let m = step_there _ _ c.loop-at-test.true c.loop-at.invariant.fine c.read-x.ensures c.next-end.ensures in omega arith

pub loop-at-preserved : goal.loop-at-preserved
loop-at-preserved c = let after : Rows = rows c.branches_noted-ends.new.claim c.branches_noted-ends.new.resources c.branches_noted-ends.new.bins c.branches_noted-ends.new.syncs in
    rw (c.noted-actions.ensures.after_is, c.noted-actions.ensures.next_is)
    (branches_turn c.loop-at.invariant c.loop-at-test.true c.read-x.ensures c.next-end.ensures
    {after = after} c.branches_noted-ends.ensures)

pub overflow_cast-from : goal.overflow_cast-from
overflow_cast-from c = omega (arith, ends_few c.loop-at.invariant)

pub offset_bounds-from-actions : goal.offset_bounds-from-actions
offset_bounds-from-actions c = omega (arith, last_room c.loop-at.invariant (omega (arith, c.loop-at-test.false)))

pub bounds-from-actions : goal.bounds-from-actions
bounds-from-actions c = omega (arith, last_room c.loop-at.invariant (omega (arith, c.loop-at-test.false)))

pub returns : goal.returns
returns c = branches_end c.loop-at.invariant (omega (arith, c.loop-at-test.false))
