-- `file_index::loops` meets its contract. The loop's invariant: what is found so far or found in the rest is the whole answer.
-- Assumes nothing.
use mathlib.Core.Path.{refl}
use native.Mathlib.Omega.{arith}
use Rattle.file_index.proofs.Bodies.{start_head}
use Rattle.file_reader.specs.Walk.{onward_ends}
use Rattle.file_index.proofs.Records.{fine_first, step_there, judged_there, fine_there}
use Rattle.file_index.proofs.Turns.{opened_next, loops_turn, loops_end}
use Rattle.file_index.specs.Index.{loops_in}
use Rattle.file_index.proofs.loops.Goals as goal

pub loop-at-init : goal.loop-at-init
loop-at-init c = rw c.first-at.ensures ((fine_first c.args.s.now c.requires, (omega arith, refl)))

pub overflow_add-at : goal.overflow_add-at
overflow_add-at c = let m = step_there _ _ c.loop-at-test.true c.loop-at.invariant.0 c.read-x.ensures c.next-end.ensures in omega arith

pub slice_bounds-may_loop-count : goal.slice_bounds-may_loop-count
slice_bounds-may_loop-count c = (step_there _ _ c.loop-at-test.true c.loop-at.invariant.0 c.read-x.ensures
    c.next-end.ensures).far

pub slice_bounds-may_loop-start : goal.slice_bounds-may_loop-start
slice_bounds-may_loop-start c = (step_there _ _ c.loop-at-test.true c.loop-at.invariant.0 c.read-x.ensures
    c.next-end.ensures).far

pub slice_bounds-may_loop-end : goal.slice_bounds-may_loop-end
slice_bounds-may_loop-end c = (step_there _ _ c.loop-at-test.true c.loop-at.invariant.0 c.read-x.ensures
    c.next-end.ensures).within

pub may_loop-found-requires : goal.may_loop-found-requires
may_loop-found-requires c = let g = judged_there _ _ c.loop-at-test.true c.loop-at.invariant.0 c.read-x.ensures c.next-end.ensures in
    λ e. omega (arith, start_head g e)

pub opened-own-requires : goal.opened-own-requires
opened-own-requires c = omega (
  arith,
  c.loop-at.invariant.1.0,
  c.loop-at-test.true,
  c.requires.short,
)

pub loop-at-smaller : goal.loop-at-smaller
loop-at-smaller c = let m = step_there _ _ c.loop-at-test.true c.loop-at.invariant.0 c.read-x.ensures c.next-end.ensures in omega arith

pub loop-at-preserved : goal.loop-at-preserved
loop-at-preserved c = let l = c.loop-at in
    let t = c.loop-at-test.true in
    let e = c.read-x.ensures in
    let i = c.next-end.ensures in
    let k = c.read-x.result.kind in
    let o = c.opened-own in
    let m = c.may_loop-found in (
      fine_there _ _ t l.invariant.0 e i,
      (
        omega (arith, step_there _ _ t l.invariant.0 e i, o.ensures, opened_next l.own k, l.invariant.1.0),
        loops_turn _ l.own _ k _ _ _ (step_there _ _ t l.invariant.0 e i).here l.found m.result _ o.result
            m.ensures o.ensures l.invariant.1.1,
      ),
    )

pub returns : goal.returns
unfolding loops_in
returns c = let l = c.loop-at in
    let n = onward_ends c.args.s.now l.at (omega (arith, c.loop-at-test.false)) in
    loops_end _ l.own _ n l.found _ l.invariant.1.1
