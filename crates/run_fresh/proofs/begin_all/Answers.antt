-- `run_fresh::begin_all` meets its contract. The loop's invariant is `Running`: with the entities that are left the run is
-- fresh. Assumes nothing.
use native.Mathlib.Omega.{arith}
use Rattle.file_index.proofs.Records.{step_there}
use Rattle.run_fresh.proofs.Running.{run_starts, run_ends, entering, run_turn}
use Rattle.run_fresh.proofs.begin_all.Goals as goal

pub loop-at-init : goal.loop-at-init
loop-at-init c = λ d. rw c.first-at.ensures (run_starts d)

pub overflow_add-at : goal.overflow_add-at
overflow_add-at c = let d = c.requires in
    let m = step_there _ _ c.loop-at-test.true (c.loop-at.invariant d).fine c.read-x.ensures c.next-end.ensures in
    omega arith

pub slice_bounds-enter-count : goal.slice_bounds-enter-count
slice_bounds-enter-count c = let d = c.requires in
    (step_there _ _ c.loop-at-test.true (c.loop-at.invariant d).fine c.read-x.ensures c.next-end.ensures).far

pub slice_bounds-enter-start : goal.slice_bounds-enter-start
slice_bounds-enter-start c = let d = c.requires in
    (step_there _ _ c.loop-at-test.true (c.loop-at.invariant d).fine c.read-x.ensures c.next-end.ensures).far

pub slice_bounds-enter-end : goal.slice_bounds-enter-end
slice_bounds-enter-end c = let d = c.requires in
    (step_there _ _ c.loop-at-test.true (c.loop-at.invariant d).fine c.read-x.ensures c.next-end.ensures).within

pub enter-requires : goal.enter-requires
enter-requires c = let d = c.requires in
    entering d (c.loop-at.invariant d) c.loop-at-test.true c.read-x.ensures c.next-end.ensures

pub loop-at-smaller : goal.loop-at-smaller
loop-at-smaller c = let d = c.requires in
    let m = step_there _ _ c.loop-at-test.true (c.loop-at.invariant d).fine c.read-x.ensures c.next-end.ensures in
    omega arith

pub loop-at-preserved : goal.loop-at-preserved
loop-at-preserved c = λ d. run_turn d (c.loop-at.invariant d) c.loop-at-test.true c.read-x.ensures c.next-end.ensures
    c.enter.ensures

pub returns : goal.returns
returns c = λ d. run_ends d (c.loop-at.invariant d) (omega (arith, c.loop-at-test.false))
