-- `act_hold_prio_lset_trace::hold` meets its contract: tests and changes are the definition's. Assumes nothing.
use mathlib.Core.Path.{refl}
use native.Mathlib.Omega.{arith}
use borrow.Author.Tests.{not-true, not-false}
use Rattle.act_floor.specs.Onward.{shown, passing}
use Rattle.act_hold_prio_lset_trace.proofs.Values.{to_value, answers, still_on, unchanged, none_within, is_within_lem}
use Rattle.act_hold_prio_lset_trace.proofs.Values.{is_below, is_above}
use Rattle.act_hold_prio_lset_trace.proofs.Between.{leaving, waking}
use Rattle.act_hold_prio_lset_trace.proofs.Steps.{hold_faults, hold_is_back, hold_is_late, held}
use Rattle.act_hold_prio_lset_trace.proofs.hold.Goals as goal

pub clock_of-clock-requires : goal.clock_of-clock-requires
clock_of-clock-requires c = shown c.requires.on tt

pub value_within-value-requires : goal.value_within-value-requires
value_within-value-requires c = to_value c.requires (λ f. f)

pub returns-then-not-value : goal.returns-then-not-value
returns-then-not-value c = λ v.
    let r = c.value_within-value in
    let no = not-true _ c.if-not-value.true in
    hold_faults v r.result (answers v (λ f. f) r.ensures.value)
    (unchanged v (λ f. f) r.ensures.w_after (none_within _ _ r.result no)) no

pub returns-then-value-lt-ZERO : goal.returns-then-value-lt-ZERO
returns-then-value-lt-ZERO c = λ v.
    let r = c.value_within-value in
    let yes = not-false _ c.if-not-value.false in
    hold_is_back v r.result (answers v (λ f. f) r.ensures.value) yes
    (unchanged v (λ f. f) r.ensures.w_after (is_below _ _ r.result yes c.if-value-lt-ZERO.true)) c.if-value-lt-ZERO.true

pub returns-then-latest-value : goal.returns-then-latest-value
returns-then-latest-value c = λ v.
    let r = c.value_within-value in
    let e = c.clock_of-clock.ensures.0 (shown v.on tt) in
    let yes = not-false _ c.if-not-value.false in
    let low = c.if-value-lt-ZERO.false in
    hold_is_late v r.result (answers v (λ f. f) r.ensures.value) yes low _ refl
    (unchanged v (λ f. f) r.ensures.w_after (is_above _ _ r.result yes low c.if-latest-value.true)) (omega (arith, e, c.if-latest-value.true))

pub past-requires : goal.past-requires
past-requires c = let r = c.value_within-value in
    let yes = not-false _ c.if-not-value.false in
    let k = is_within_lem _ _ r.result yes c.if-value-lt-ZERO.false c.if-latest-value.false in
    passing (still_on c.requires (λ f. f) r.ensures.w_after k)

pub leave_floor-requires : goal.leave_floor-requires
leave_floor-requires c = let r = c.value_within-value in
    let yes = not-false _ c.if-not-value.false in
    let k = is_within_lem _ _ r.result yes c.if-value-lt-ZERO.false c.if-latest-value.false in
    let v = still_on c.requires (λ f. f) r.ensures.w_after k in
    leaving v (c.past.ensures (passing v))

pub wake-requires : goal.wake-requires
wake-requires c = let r = c.value_within-value in
    let e = c.clock_of-clock.ensures.0 (shown c.requires.on tt) in
    let high = c.if-latest-value.false in
    let k = is_within_lem _ _ r.result (not-false _ c.if-not-value.false) c.if-value-lt-ZERO.false high in
    let v = still_on c.requires (λ f. f) r.ensures.w_after k in
    waking v (c.leave_floor.ensures (leaving v (c.past.ensures (passing v)))) _
    (omega (arith, e)) (omega (arith, high))

pub returns : goal.returns
returns c = λ v.
    let r = c.value_within-value in
    let e = c.clock_of-clock.ensures.0 (shown v.on tt) in
    let yes = not-false _ c.if-not-value.false in
    let low = c.if-value-lt-ZERO.false in
    let high = c.if-latest-value.false in
    let o = still_on v (λ f. f) r.ensures.w_after (is_within_lem _ _ r.result yes low high) in
    let f = c.leave_floor.ensures (leaving o (c.past.ensures (passing o))) in
    held v r.result (answers v (λ f. f) r.ensures.value) yes low _ (omega (arith, e)) (omega (arith, high))
    (c.wake.ensures (waking o f _ (omega (arith, e)) (omega (arith, high))))
