-- `act_hold_prio_lset_trace::prio` meets its contract: the code of the priority is that of the greater of two. Assumes nothing.
use native.Mathlib.Omega.{arith}
use mathlib.Core.Path.{◌∙◌}
use Prim.Native.Nat.{◌<◌}
use borrow.Author.Tests.{not-true, not-false}
use borrow.Author.Rules.{rules}
use Rattle.base_numbers.specs.Code as Code
use Rattle.act_floor.specs.Onward.{passing}
use Rattle.act_hold_prio_lset_trace.proofs.Values.{to_value, answers, still_on, unchanged}
use Rattle.act_hold_prio_lset_trace.proofs.Between.{raising, raised_is}
use Rattle.act_hold_prio_lset_trace.proofs.Steps.{prio_faults, prioritized}
use Rattle.act_hold_prio_lset_trace.proofs.prio.Goals as goal

pub value_in-value-requires : goal.value_in-value-requires
value_in-value-requires c = to_value c.requires (λ f. f)

pub returns-then-not-value : goal.returns-then-not-value
returns-then-not-value c = λ v.
    let r = c.value_in-value in
    let no = not-true _ c.if-not-value.true in
    prio_faults v r.result (answers v (λ f. f) r.ensures.value) (unchanged v (λ f. f) r.ensures.w_after no) no

pub past-requires : goal.past-requires
past-requires c = let r = c.value_in-value in
    passing (still_on c.requires (λ f. f) r.ensures.w_after (not-false r.result.ok c.if-not-value.false))

pub set_priority-requires : goal.set_priority-requires
set_priority-requires c = let r = c.value_in-value in
    let v = still_on c.requires (λ f. f) r.ensures.w_after (not-false r.result.ok c.if-not-value.false) in
    raising v r.result.code _ (search rules) c.greater-priority.ensures (c.past.ensures (passing v))

pub returns : goal.returns
returns c = λ v.
    let r = c.value_in-value in
    let yes = not-false r.result.ok c.if-not-value.false in
    let o = still_on v (λ f. f) r.ensures.w_after yes in
    let l : r.result.code < Code.CODES = omega (arith, c.struct_known-1) in
    let g = c.greater-priority.ensures in
    let d = raising o r.result.code _ l g (c.past.ensures (passing o)) in
    prioritized v r.result (answers v (λ f. f) r.ensures.value) yes
    (c.set_priority.ensures d ∙ raised_is o r.result.code _ l g)
