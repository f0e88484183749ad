-- `row_grant::take_all` meets its contract. The loop's invariant: the items left, taken from the state that the work shows now,
-- come to the whole claim taken. Assumes nothing.
use Prim.Native.Nat.{◌+◌}
use native.Mathlib.Omega.{arith}
use mathlib.Core.Path.{sym}
use lib.ListN.{length-drop}
use lib.Seq.{length-take-le}
use Rattle.file_check_parts.proofs.Laws.{rest_of, fits_turn}
use Rattle.row_grant.proofs.Taking.{all_left, next_taking, less_left, none_left}
use Rattle.row_grant.proofs.take_all.Goals as goal

pub u16_at-left-requires : goal.u16_at-left-requires
u16_at-left-requires c = omega (arith, c.requires.claim_at.inside)

pub overflow_add-rest : goal.overflow_add-rest
overflow_add-rest c = omega (arith, c.requires.claim_at.inside)

pub slice_bounds-rest-count : goal.slice_bounds-rest-count
slice_bounds-rest-count c = omega (arith, c.requires.claim_at.inside)

pub slice_bounds-rest-start : goal.slice_bounds-rest-start
slice_bounds-rest-start c = omega (arith, c.requires.claim_at.inside)

pub loop-left-init : goal.loop-left-init
loop-left-init c = let s = c.args.s.now in
    let at = c.args.at in
    let e = c.u16_at-left.ensures.0 in
    let i = c.requires.claim_at.inside in
    (rw (rest_of (at + 2) s, length-drop (at + 2) s) (omega (arith, e, i)), λ v. all_left v e)

pub slice_bounds-take_item-end : goal.slice_bounds-take_item-end
slice_bounds-take_item-end c = let l = c.loop-left in
    sym (length-take-le 8 l.rest.now (omega (arith, c.loop-left-test.true, l.invariant.0)))

pub take_item-requires : goal.take_item-requires
take_item-requires c = let l = c.loop-left in
    let t = c.loop-left-test.true in
    let v = c.requires in (
      next_taking v t (l.invariant.1 v),
      rw (length-take-le 8 l.rest.now (omega (arith, t, l.invariant.0))) (omega arith),
    )

pub slice_bounds-rest-count-in-loop-left : goal.slice_bounds-rest-count-in-loop-left
slice_bounds-rest-count-in-loop-left c = let t = c.loop-left-test.true in
    omega (arith, t, c.loop-left.invariant.0)

pub slice_bounds-rest-start-in-loop-left : goal.slice_bounds-rest-start-in-loop-left
slice_bounds-rest-start-in-loop-left c = let t = c.loop-left-test.true in
    omega (arith, t, c.loop-left.invariant.0)

pub overflow_sub-left : goal.overflow_sub-left
overflow_sub-left c = omega (arith, c.loop-left-test.true)

pub loop-left-smaller : goal.loop-left-smaller
loop-left-smaller c = omega (arith, c.loop-left-test.true)

pub loop-left-preserved : goal.loop-left-preserved
loop-left-preserved c = let l = c.loop-left in
    let t = c.loop-left-test.true in (
      fits_turn 8 l.left l.rest.now t l.invariant.0,
      λ v. less_left v t (l.invariant.1 v) c.take_item.ensures,
    )

pub returns : goal.returns
returns c = λ v. none_left v (omega (arith, c.loop-left-test.false)) (c.loop-left.invariant.1 v)
