-- `act_step::act_on_value` meets its contract: the kind tells the action, the body its expression. Assumes nothing.
use mathlib.Core.Path.{◌≡◌}
use native.Mathlib.Omega.{arith}
use Rattle.semantics.specs.Model.{HOLD, PRIO, SET, LSET}
use Rattle.file_check_parts.proofs.Laws.{rest_of}
use Rattle.act_step.proofs.Acts.{hold_is, prio_is, set_is, lset_is}
use Rattle.act_step.proofs.Meeting.{known, kind_in, done, done_quietly, hold_told, prio_told, head_long}
use Rattle.act_step.proofs.Meeting.{is_set, is_lset, set_told, lset_told}
use Rattle.act_step.proofs.act_on_value.Goals as goal

pub hold-requires : goal.hold-requires
hold-requires c = hold_told c.requires.meets c.if-kind-eq-HOLD.true

pub returns-then-kind-eq-HOLD : goal.returns-then-kind-eq-HOLD
returns-then-kind-eq-HOLD c = λ v.
    let e = c.if-kind-eq-HOLD.true in
    let t = hold_told v e in
    done_quietly v (HOLD t.expression) (known v 16 e).1 _ (hold_is _ _ _ t.expression) _ _ _ _ _
    (c.hold.ensures t)

pub prio-requires : goal.prio-requires
prio-requires c = prio_told c.requires.meets c.if-kind-eq-PRIO.true

pub returns-then-kind-eq-PRIO : goal.returns-then-kind-eq-PRIO
returns-then-kind-eq-PRIO c = λ v.
    let e = c.if-kind-eq-PRIO.true in
    let t = prio_told v e in
    done_quietly v (PRIO t.expression) (known v 17 e).1 _ (prio_is _ _ _ t.expression) _ _ _ _ _
    (c.prio.ensures t)

pub u16_at-i-requires : goal.u16_at-i-requires
u16_at-i-requires c = head_long c.requires.meets (omega (arith, kind_in c.requires.meets, c.if-kind-eq-HOLD.false, c.if-kind-eq-PRIO.false)) (omega (arith, c.requires.kind_bound.0))

pub slice_bounds-rest-count : goal.slice_bounds-rest-count
slice_bounds-rest-count c = head_long c.requires.meets (omega (arith, kind_in c.requires.meets, c.if-kind-eq-HOLD.false, c.if-kind-eq-PRIO.false)) (omega (arith, c.requires.kind_bound.0))

pub slice_bounds-rest-start : goal.slice_bounds-rest-start
slice_bounds-rest-start c = head_long c.requires.meets (omega (arith, kind_in c.requires.meets, c.if-kind-eq-HOLD.false, c.if-kind-eq-PRIO.false)) (omega (arith, c.requires.kind_bound.0))

pub set_global-requires : goal.set_global-requires
set_global-requires c = let b = rest_of 2 c.args.body.now in record {
  setting = set_told c.requires.meets c.u16_at-i.ensures.0 b c.if-kind-eq-SET.true;
  roomy = c.requires.kind_bound.1;
}

pub returns-then-kind-eq-SET : goal.returns-then-kind-eq-SET
returns-then-kind-eq-SET c = λ v.
    let n = c.u16_at-i.ensures.0 in
    let e = c.if-kind-eq-SET.true in
    let t = set_told v n (rest_of 2 c.args.body.now) e in
    done v (SET _ t.expression) (is_set v n e).1 _ (set_is _ _ _ _ t.expression) _ _ _ _ _ _
    (c.set_global.ensures t)

pub set_local-requires : goal.set_local-requires
set_local-requires c = lset_told c.requires.meets c.u16_at-i.ensures.0 (rest_of 2 c.args.body.now)
    (omega (arith, kind_in c.requires.meets, c.if-kind-eq-HOLD.false, c.if-kind-eq-PRIO.false, c.if-kind-eq-SET.false, c.requires.kind_bound.0))

pub returns : goal.returns
returns c = λ v.
    let n = c.u16_at-i.ensures.0 in
    let e : c.args.kind ≡ 19 =
    omega (arith, kind_in v, c.if-kind-eq-HOLD.false, c.if-kind-eq-PRIO.false, c.if-kind-eq-SET.false, c.requires.kind_bound.0) in
    let t = lset_told v n (rest_of 2 c.args.body.now) e in
    done_quietly v (LSET _ t.expression) (is_lset v n e).1 _ (lset_is _ _ _ _ t.expression) _ _ _ _ _
    (c.set_local.ensures t)
