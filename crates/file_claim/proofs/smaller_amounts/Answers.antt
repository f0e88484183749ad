-- `file_claim::smaller_amounts` meets its contract. The loop's invariant: what is left to be compared decides. Assumes nothing.
use Prim.Native.Nat.{◌+◌}
use native.Mathlib.Omega.{arith}
use mathlib.Core.Path.{sym, ◌∙◌, ap}
use mathlib.Core.Bool.{false}
use lib.ListN.{drop, length-drop}
use lib.Seq.{length-take-le}
use Rattle.semantics.specs.Record.{claim_in}
use Rattle.semantics.specs.Claim.{smaller_amounts}
use Rattle.file_check_parts.proofs.Laws.{rest_of, fits_turn}
use Rattle.file_claim.proofs.Turns.{all_left, none_left, left_of, turn_ends, turn_on, nothing_left, never_smaller}
use Rattle.file_claim.proofs.smaller_amounts.Goals as goal

pub returns-then-q-b : goal.returns-then-q-b
returns-then-q-b c = let a = c.args in
    let x = claim_in (drop a.q a.s.now) in
    sym (never_smaller x) ∙ ap (λ b. smaller_amounts x (claim_in (drop b a.s.now))) c.if-q-b.true

pub u16_at-left-requires : goal.u16_at-left-requires
u16_at-left-requires c = omega (arith, c.requires.0)

pub overflow_add-rest : goal.overflow_add-rest
overflow_add-rest c = omega (arith, c.requires.0)

pub slice_bounds-rest-count : goal.slice_bounds-rest-count
slice_bounds-rest-count c = omega (arith, c.requires.0)

pub slice_bounds-rest-start : goal.slice_bounds-rest-start
slice_bounds-rest-start c = omega (arith, c.requires.0)

pub loop-left-init : goal.loop-left-init
loop-left-init c = let from = c.args.q + 2 in
    let s = c.args.s.now in
    let e = c.u16_at-left.ensures.0 in (
      rw (rest_of from s, length-drop from s) (omega (arith, e, c.requires.0)),
      ap (left_of (claim_in (drop c.args.q s)) (claim_in (drop c.args.b s)) false) (all_left s c.args.q _ e),
    )

pub slice_bounds-compare-end : goal.slice_bounds-compare-end
slice_bounds-compare-end c = let l = c.loop-left in
    sym (length-take-le 8 l.rest.now (omega (arith, c.loop-left-test.true, l.invariant.0)))

pub compare-compared-requires : goal.compare-compared-requires
compare-compared-requires c = let l = c.loop-left in
    let p = c.requires in
    (p, rw (length-take-le 8 l.rest.now (omega (arith, c.loop-left-test.true, l.invariant.0))) (omega arith))

pub returns-then-compared : goal.returns-then-compared
returns-then-compared c = let l = c.loop-left in
    let t = c.loop-left-test.true in
    turn_ends (claim_in (drop c.args.q c.args.s.now)) (claim_in (drop c.args.b c.args.s.now)) l.smaller l.left l.rest.now t _ c.compare-compared.ensures c.if-compared.true ∙ l.invariant.1

pub slice_bounds-rest-count-in-loop-left : goal.slice_bounds-rest-count-in-loop-left
slice_bounds-rest-count-in-loop-left c = let l = c.loop-left in
    omega (arith, c.loop-left-test.true, l.invariant.0)

pub slice_bounds-rest-start-in-loop-left : goal.slice_bounds-rest-start-in-loop-left
slice_bounds-rest-start-in-loop-left c = let l = c.loop-left in
    omega (arith, c.loop-left-test.true, l.invariant.0)

pub overflow_sub-left : goal.overflow_sub-left
overflow_sub-left c = omega (arith, c.loop-left-test.true)

pub loop-left-smaller : goal.loop-left-smaller
loop-left-smaller c = omega (arith, c.loop-left-test.true)

pub loop-left-preserved : goal.loop-left-preserved
loop-left-preserved c = let l = c.loop-left in
    let t = c.loop-left-test.true in
    let told = c.compare-compared.ensures in (
      fits_turn 8 l.left l.rest.now t l.invariant.0,
      turn_on (claim_in (drop c.args.q c.args.s.now)) (claim_in (drop c.args.b c.args.s.now)) l.smaller l.left l.rest.now t _ told c.if-compared.false ∙ l.invariant.1,
    )

pub returns : goal.returns
returns c = let l = c.loop-left in
    let s = c.args.s.now in
    let x = claim_in (drop c.args.q s) in
    let y = claim_in (drop c.args.b s) in
    sym (nothing_left x y l.smaller)
    ∙ sym (ap (left_of x y l.smaller) (none_left l.left l.rest.now (omega (arith, c.loop-left-test.false))))
    ∙ l.invariant.1
