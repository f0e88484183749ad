-- `run_fresh::declare` meets its contract. The loop's invariant is `Declared`: the first of each are written.
-- Assumes nothing.
use native.Mathlib.Omega.{arith}
use lib.Dec.{eqb}
use Rattle.semantics.specs.Kinds as K
use Rattle.file_index.proofs.Records.{step_there, judged_there}
use Rattle.run_fresh.proofs.Declaring.{declare_starts, free_room, bins_room, vars_room}
use Rattle.run_fresh.proofs.Declaring.{seeds_room, declare_turn, declare_ends}
use Rattle.run_fresh.proofs.declare.Goals as goal

pub loop-at-init : goal.loop-at-init
loop-at-init c = λ d. rw c.first-at.ensures (declare_starts d)

pub overflow_add-at : goal.overflow_add-at
overflow_add-at c = let d = c.requires in
    let m = step_there _ _ c.loop-at-test.true (c.loop-at.invariant d).fine c.read-x.ensures c.next-end.ensures in
    omega arith

pub slice_bounds-amount-count : goal.slice_bounds-amount-count
slice_bounds-amount-count c = let d = c.requires in
    (step_there _ _ c.loop-at-test.true (c.loop-at.invariant d).fine c.read-x.ensures c.next-end.ensures).far

pub slice_bounds-amount-start : goal.slice_bounds-amount-start
slice_bounds-amount-start c = let d = c.requires in
    (step_there _ _ c.loop-at-test.true (c.loop-at.invariant d).fine c.read-x.ensures c.next-end.ensures).far

pub slice_bounds-amount-end : goal.slice_bounds-amount-end
slice_bounds-amount-end c = let d = c.requires in
    (step_there _ _ c.loop-at-test.true (c.loop-at.invariant d).fine c.read-x.ensures c.next-end.ensures).within

pub amount-v-requires : goal.amount-v-requires
amount-v-requires c = let d = c.requires in
    judged_there _ _ c.loop-at-test.true (c.loop-at.invariant d).fine c.read-x.ensures c.next-end.ensures

pub noted-free-requires : goal.noted-free-requires
noted-free-requires c = let d = c.requires in
    free_room d (c.loop-at.invariant d) (eqb c.read-x.result.kind 1) c.amount-v.result

pub noted-bins-requires : goal.noted-bins-requires
noted-bins-requires c = let d = c.requires in
    let k = c.read-x.result.kind in
    bins_room d (c.loop-at.invariant d) c.noted-free.ensures (eqb k K.BIN) c.amount-v.result

pub noted-vars-requires : goal.noted-vars-requires
noted-vars-requires c = let d = c.requires in
    let k = c.read-x.result.kind in
    let a = c.amount-v in
    vars_room d (c.loop-at.invariant d) c.noted-free.ensures c.noted-bins.ensures (eqb k K.VAR)
    a.result

pub noted-seeds-requires : goal.noted-seeds-requires
noted-seeds-requires c = let d = c.requires in
    seeds_room d (c.loop-at.invariant d) c.loop-at-test.true c.read-x.ensures c.next-end.ensures
    c.amount-v.ensures c.noted-free.ensures c.noted-bins.ensures c.noted-vars.ensures

pub loop-at-smaller : goal.loop-at-smaller
loop-at-smaller c = let d = c.requires in
    let m = step_there _ _ c.loop-at-test.true (c.loop-at.invariant d).fine c.read-x.ensures c.next-end.ensures in
    omega arith

pub loop-at-preserved : goal.loop-at-preserved
loop-at-preserved c = λ d. declare_turn d (c.loop-at.invariant d) c.loop-at-test.true c.read-x.ensures c.next-end.ensures
    c.amount-v.ensures c.noted-free.ensures c.noted-bins.ensures c.noted-vars.ensures
    c.noted-seeds.ensures

pub returns : goal.returns
returns c = λ d. declare_ends d (c.loop-at.invariant d) (omega (arith, c.loop-at-test.false))
