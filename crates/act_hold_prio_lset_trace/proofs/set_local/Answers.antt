-- `act_hold_prio_lset_trace::set_local` meets its contract: the local's code is that of the value. Assumes nothing.
use mathlib.Core.Path.{◌∙◌}
use borrow.Author.Tests.{not-true, not-false}
use borrow.Author.Rules.{rules}
use Rattle.act_floor.specs.Onward.{passing}
use Rattle.act_hold_prio_lset_trace.proofs.Values.{to_value, answers, still_on, unchanged}
use Rattle.act_hold_prio_lset_trace.proofs.Between.{storing, stored_is}
use Rattle.act_hold_prio_lset_trace.proofs.Steps.{local_faults, local_set}
use Rattle.act_hold_prio_lset_trace.proofs.set_local.Goals as goal

pub value_in-value-requires : goal.value_in-value-requires
value_in-value-requires c = to_value c.requires (λ f. f.1)

pub returns-then-not-value : goal.returns-then-not-value
returns-then-not-value c = λ v.
    let r = c.value_in-value in
    let no = not-true _ c.if-not-value.true in
    local_faults v r.result (answers v (λ f. f.1) r.ensures.value) (unchanged v (λ f. f.1) r.ensures.w_after no) no _

pub past-requires : goal.past-requires
past-requires c = let r = c.value_in-value in
    passing (still_on c.requires (λ f. f.1) r.ensures.w_after (not-false r.result.ok c.if-not-value.false))

pub set_local-requires : goal.set_local-requires
set_local-requires c = let r = c.value_in-value in
    let v = still_on c.requires (λ f. f.1) r.ensures.w_after (not-false r.result.ok c.if-not-value.false) in
    storing v r.result.code (search rules) (c.past.ensures (passing v))

pub returns : goal.returns
returns c = λ v.
    let r = c.value_in-value in
    let yes = not-false r.result.ok c.if-not-value.false in
    let o = still_on v (λ f. f.1) r.ensures.w_after yes in
    let d = storing o r.result.code (search rules) (c.past.ensures (passing o)) in
    local_set v r.result (answers v (λ f. f.1) r.ensures.value) yes _
    (c.set_local.ensures d ∙ stored_is o r.result.code (search rules))
