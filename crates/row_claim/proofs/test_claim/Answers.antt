-- `row_claim::test_claim` meets its contract. The loop's invariant: the test of what is left is that of the claim. Assumes nothing.
use Prim.Native.Nat.{◌+◌}
use native.Mathlib.Omega.{arith}
use mathlib.Core.Path.{sym}
use lib.ListN.{length-drop}
use lib.Seq.{length-take-le}
use Rattle.file_check_parts.proofs.Laws.{rest_of, fits_turn}
use Rattle.row_claim.proofs.Claims.{all_left, next_item, is_lacking, less_left, none_left}
use Rattle.row_claim.proofs.test_claim.Goals as goal

pub u16_at-many-requires : goal.u16_at-many-requires
u16_at-many-requires c = omega (arith, c.requires.claim_at.inside)

pub overflow_add-rest : goal.overflow_add-rest
overflow_add-rest c = omega (arith, c.requires.claim_at.inside)

pub slice_bounds-rest-count : goal.slice_bounds-rest-count
slice_bounds-rest-count c = omega (arith, c.requires.claim_at.inside)

pub slice_bounds-rest-start : goal.slice_bounds-rest-start
slice_bounds-rest-start c = omega (arith, c.requires.claim_at.inside)

pub loop-left-init : goal.loop-left-init
loop-left-init c = let from = c.args.at + 2 in
    let e = c.u16_at-many.ensures.0 in (
      rw (rest_of from c.args.s.now, length-drop from c.args.s.now) (omega (arith, e, c.requires.claim_at.inside)),
      omega arith,
      λ v. all_left _ _ _ v _ _ (omega arith) e,
    )

pub slice_bounds-item_met-end : goal.slice_bounds-item_met-end
slice_bounds-item_met-end c = let l = c.loop-left in
    sym (length-take-le 8 l.rest.now (omega (arith, c.loop-left-test.true, l.invariant.0)))

pub item_met-requires : goal.item_met-requires
item_met-requires c = let l = c.loop-left in
    let t = c.loop-left-test.true in
    let v = c.requires in
    (next_item _ _ _ v _ _ _ t (l.invariant.2 v), rw (length-take-le 8 l.rest.now (omega (arith, t, l.invariant.0))) (omega arith))

pub overflow_sub-result : goal.overflow_sub-result
overflow_sub-result c = omega (arith, c.loop-left.invariant.1)

pub overflow_add-result : goal.overflow_add-result
overflow_add-result c = omega (arith, c.u16_at-many.ensures.1)

pub returns-then-not-item_met : goal.returns-then-not-item_met
returns-then-not-item_met c = λ v.
    let t = c.loop-left-test.true in
    let i = c.loop-left.invariant.2 v in
    is_lacking _ _ _ v _ _ _ t i _ c.item_met.ensures (c.if-not-item_met.true)

pub slice_bounds-rest-count-in-loop-left : goal.slice_bounds-rest-count-in-loop-left
slice_bounds-rest-count-in-loop-left c = omega (arith, c.loop-left-test.true, c.loop-left.invariant.0)

pub slice_bounds-rest-start-in-loop-left : goal.slice_bounds-rest-start-in-loop-left
slice_bounds-rest-start-in-loop-left c = omega (arith, c.loop-left-test.true, c.loop-left.invariant.0)

pub overflow_sub-left : goal.overflow_sub-left
overflow_sub-left c = omega (arith, c.loop-left-test.true)

pub loop-left-smaller : goal.loop-left-smaller
loop-left-smaller c = omega (arith, c.loop-left-test.true)

pub loop-left-preserved : goal.loop-left-preserved
loop-left-preserved c = let l = c.loop-left in
    let t = c.loop-left-test.true in
    let told = c.item_met.ensures in (
      fits_turn 8 l.left l.rest.now t l.invariant.0,
      omega (arith, l.invariant.1),
      λ v. less_left _ _ _ v _ _ _ t (l.invariant.2 v) _ told _ (omega (arith, t, l.invariant.1)) (c.if-not-item_met.false),
    )

pub returns : goal.returns
returns c = λ v. none_left _ _ _ v _ _ _ (omega (arith, c.loop-left-test.false)) (c.loop-left.invariant.2 v)
