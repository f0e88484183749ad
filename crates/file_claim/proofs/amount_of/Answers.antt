-- `file_claim::amount_of` meets its contract. The loop's invariant: what the items left have of the thing is what the claim has.
-- Assumes nothing.
use Prim.Native.Nat.{◌+◌}
use native.Mathlib.Omega.{arith}
use mathlib.Core.Path.{sym, ◌∙◌, ap}
use lib.ListN.{length-drop}
use lib.Seq.{length-take-le}
use Rattle.semantics.specs.Claim.{amount_of}
use Rattle.file_check_parts.proofs.Laws.{rest_of, fits_turn}
use Rattle.file_claim.specs.Amounts.{thing}
use Rattle.file_claim.proofs.Turns.{all_left, none_left, amount_here, amount_later}
use Rattle.file_claim.proofs.amount_of.Goals as goal

pub u16_at-left-requires : goal.u16_at-left-requires
u16_at-left-requires c = omega (arith, c.requires.0)

pub overflow_add-rest : goal.overflow_add-rest
overflow_add-rest c = omega (arith, c.requires.0)

pub slice_bounds-rest-count : goal.slice_bounds-rest-count
slice_bounds-rest-count c = omega (arith, c.requires.0)

pub slice_bounds-rest-start : goal.slice_bounds-rest-start
slice_bounds-rest-start c = omega (arith, c.requires.0)

pub loop-left-init : goal.loop-left-init
loop-left-init c = let from = c.args.at + 2 in
    let e = c.u16_at-left.ensures.0 in (
      rw (rest_of from c.args.s.now, length-drop from c.args.s.now) (omega (arith, e, c.requires.0)),
      ap (λ is. amount_of is (thing c.args.kind c.args.number)) (all_left c.args.s.now c.args.at _ e),
    )

pub slice_bounds-i-end : goal.slice_bounds-i-end
slice_bounds-i-end c = let l = c.loop-left in
    sym (length-take-le 8 l.rest.now (omega (arith, c.loop-left-test.true, l.invariant.0)))

pub names-requires : goal.names-requires
names-requires c = let l = c.loop-left in
    rw (length-take-le 8 l.rest.now (omega (arith, c.loop-left-test.true, l.invariant.0))) (omega arith)

pub u32_at-requires : goal.u32_at-requires
u32_at-requires c = let l = c.loop-left in
    let t = c.loop-left-test.true in
    rw (length-take-le 8 l.rest.now (omega (arith, t, l.invariant.0))) (omega arith)

pub returns-then-names : goal.returns-then-names
returns-then-names c = let l = c.loop-left in
    let t = c.loop-left-test.true in
    let k = c.requires.1 in
    c.u32_at.ensures
    ∙ amount_here l.left l.rest.now t _ _ k (sym c.names.ensures ∙ c.if-names.true)
    ∙ l.invariant.1

pub slice_bounds-rest-count-in-loop-left : goal.slice_bounds-rest-count-in-loop-left
slice_bounds-rest-count-in-loop-left c = omega (arith, c.loop-left-test.true, c.loop-left.invariant.0)

pub slice_bounds-rest-start-in-loop-left : goal.slice_bounds-rest-start-in-loop-left
slice_bounds-rest-start-in-loop-left c = omega (arith, c.loop-left-test.true, c.loop-left.invariant.0)

pub overflow_sub-left : goal.overflow_sub-left
overflow_sub-left c = omega (arith, c.loop-left-test.true)

pub loop-left-smaller : goal.loop-left-smaller
loop-left-smaller c = omega (arith, c.loop-left-test.true)

pub loop-left-preserved : goal.loop-left-preserved
loop-left-preserved c = let l = c.loop-left in
    let t = c.loop-left-test.true in
    let k = c.requires.1 in (
      fits_turn 8 l.left l.rest.now t l.invariant.0,
      amount_later l.left l.rest.now t _ _ k (sym c.names.ensures ∙ c.if-names.false)
          ∙ l.invariant.1,
    )

pub returns : goal.returns
returns c = let l = c.loop-left in
    let n = none_left l.left l.rest.now (omega (arith, c.loop-left-test.false)) in
    sym (ap (λ is. amount_of is (thing c.args.kind c.args.number)) n)
    ∙ l.invariant.1
