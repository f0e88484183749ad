-- `file_index::samplers_of` meets its contract. The loop's invariant is `Sampling`: each array has the front of its table.
-- Assumes nothing.
use native.Mathlib.Omega.{arith}
use Rattle.file_index.proofs.Sampling.{sampling_starts, sampling_turn, sampling_ends, lowest_long, values_long}
use Rattle.file_index.proofs.Sampling.{lowest_room, values_room}
use Rattle.file_index.proofs.Records.{step_there, judged_there}
use Rattle.file_index.proofs.samplers_of.Goals as goal

pub loop-at-init : goal.loop-at-init
loop-at-init c = rw c.first-at.ensures (sampling_starts c.args.s.now c.requires)

pub overflow_add-bs : goal.overflow_add-bs
overflow_add-bs c = let m =
    step_there _ _ c.loop-at-test.true c.loop-at.invariant.fine c.read-x.ensures c.next-end.ensures in
    omega arith

pub slice_bounds-bs-count : goal.slice_bounds-bs-count
slice_bounds-bs-count c = (step_there _ _ c.loop-at-test.true c.loop-at.invariant.fine c.read-x.ensures c.next-end.ensures).far

pub slice_bounds-bs-start : goal.slice_bounds-bs-start
slice_bounds-bs-start c = (step_there _ _ c.loop-at-test.true c.loop-at.invariant.fine c.read-x.ensures c.next-end.ensures).far

pub slice_bounds-bs-end : goal.slice_bounds-bs-end
slice_bounds-bs-end c = (step_there _ _ c.loop-at-test.true c.loop-at.invariant.fine c.read-x.ensures c.next-end.ensures
    ).within

pub lowest_of-requires : goal.lowest_of-requires
lowest_of-requires c = judged_there _ _ c.loop-at-test.true c.loop-at.invariant.fine c.read-x.ensures c.next-end.ensures

pub slice_bounds-noted-end : goal.slice_bounds-noted-end
slice_bounds-noted-end c = lowest_long c.loop-at.invariant

pub noted-requires : goal.noted-requires
noted-requires c = lowest_room c.loop-at.invariant c.loop-at-test.true c.read-x.ensures c.next-end.ensures
    c.lowest_of.ensures

pub values_of-requires : goal.values_of-requires
values_of-requires c = judged_there _ _ c.loop-at-test.true c.loop-at.invariant.fine c.read-x.ensures c.next-end.ensures

pub slice_bounds-noted-end-in-loop-at : goal.slice_bounds-noted-end-in-loop-at
slice_bounds-noted-end-in-loop-at c = values_long c.loop-at.invariant

pub noted-samplers-requires : goal.noted-samplers-requires
noted-samplers-requires c = values_room c.loop-at.invariant c.loop-at-test.true c.read-x.ensures c.next-end.ensures
    c.values_of.ensures

pub loop-at-smaller : goal.loop-at-smaller
loop-at-smaller c = let m =
    step_there _ _ c.loop-at-test.true c.loop-at.invariant.fine c.read-x.ensures c.next-end.ensures in
    omega arith

pub loop-at-preserved : goal.loop-at-preserved
loop-at-preserved c = rw (c.noted.ensures.after_is, c.noted-samplers.ensures.next_is, c.noted-samplers.ensures.after_is)
    (sampling_turn c.loop-at.invariant c.loop-at-test.true c.read-x.ensures c.next-end.ensures
    c.lowest_of.ensures c.values_of.ensures)

pub returns : goal.returns
returns c = sampling_ends c.loop-at.invariant (omega (arith, c.loop-at-test.false))
