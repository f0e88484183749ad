-- `act_hold_prio_lset_trace::trace` meets its contract: the line has the value. Assumes nothing.
use native.Mathlib.Omega.{arith}
use borrow.Author.Tests.{not-true, not-false}
use Rattle.act_floor.specs.Onward.{shown, low, passing}
use Rattle.act_hold_prio_lset_trace.proofs.Values.{to_value, answers, still_on, unchanged}
use Rattle.act_hold_prio_lset_trace.proofs.Steps.{trace_faults, traced}
use Rattle.act_hold_prio_lset_trace.proofs.trace.Goals as goal

pub value_in-value-requires : goal.value_in-value-requires
value_in-value-requires c = to_value c.requires.given (λ f. f)

pub returns-then-not-value : goal.returns-then-not-value
returns-then-not-value c = λ v.
    let r = c.value_in-value in
    let no = not-true _ c.if-not-value.true in
    trace_faults v r.result (answers v (λ f. f) r.ensures.value) (unchanged v (λ f. f) r.ensures.w_after no) no _ _

pub note-requires : goal.note-requires
note-requires c = let r = c.value_in-value in
    let v = still_on c.requires.given (λ f. f) r.ensures.w_after (not-false r.result.ok c.if-not-value.false) in
    (shown v (low v), (omega (arith, c.requires.roomy), omega arith))

pub past-requires : goal.past-requires
past-requires c = let r = c.value_in-value in
    passing (still_on c.requires.given (λ f. f) r.ensures.w_after (not-false r.result.ok c.if-not-value.false))

pub returns : goal.returns
returns c = λ v.
    let r = c.value_in-value in
    let yes = not-false r.result.ok c.if-not-value.false in
    let o = still_on v (λ f. f) r.ensures.w_after yes in
    traced v r.result (answers v (λ f. f) r.ensures.value) yes (c.past.ensures (passing o)) _ _
    (c.note.ensures (shown o (low o)))
