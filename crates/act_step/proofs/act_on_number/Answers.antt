-- `act_step::act_on_number` meets its contract: the kind tells the action, the body its numbers. Assumes nothing.
use mathlib.Core.Path.{◌≡◌, ◌∙◌}
use native.Mathlib.Omega.{arith}
use Rattle.semantics.specs.Model.{DO, PUTR, PUTB, PUTS, BECOME}
use Rattle.act_floor.specs.Running.{on}
use Rattle.act_step.proofs.Acts.{do_is, putr_is, putb_is, puts_is, become_is}
use Rattle.act_step.proofs.Meeting.{stands_at, done, done_quietly, head_long, do_long, puts_long, amount_long, is_become}
use Rattle.act_step.proofs.Meeting.{is_do, is_puts, is_putr, is_putb}
use Rattle.act_step.proofs.act_on_number.Goals as goal

pub u16_at-first-requires : goal.u16_at-first-requires
u16_at-first-requires c = head_long c.requires.meets (omega (arith, c.requires.le_kind.0.0)) c.requires.le_kind.0.1

pub become_slave-requires : goal.become_slave-requires
become_slave-requires c = record {
  acting = stands_at c.requires.meets (BECOME _) (is_become c.requires.meets c.u16_at-first.ensures.0 c.if-kind-eq-BECOME.true);
  roomy = c.requires.le_kind.1;
}

pub returns-then-kind-eq-BECOME : goal.returns-then-kind-eq-BECOME
returns-then-kind-eq-BECOME c = λ v.
    let i = is_become v c.u16_at-first.ensures.0 c.if-kind-eq-BECOME.true in
    done v (BECOME _) i _ (become_is _ _ _ _) _ _ _ _ _ _ (c.become_slave.ensures (stands_at v (BECOME _) i))

pub u16_at-block-requires : goal.u16_at-block-requires
u16_at-block-requires c = omega (arith, do_long c.requires.meets c.if-kind-eq-DO.true)

pub do_times-requires : goal.do_times-requires
do_times-requires c = let a = c.wide.ensures.0 ∙ c.u16_at-first.ensures.0 in
    let b = c.wide-then-kind-eq-DO.ensures.0 ∙ c.u16_at-block.ensures.0 in
    on (stands_at c.requires.meets (DO _ _) (is_do c.requires.meets a b c.if-kind-eq-DO.true))

pub returns-then-kind-eq-DO : goal.returns-then-kind-eq-DO
returns-then-kind-eq-DO c = λ v.
    let a = c.wide.ensures.0 ∙ c.u16_at-first.ensures.0 in
    let b = c.wide-then-kind-eq-DO.ensures.0 ∙ c.u16_at-block.ensures.0 in
    let i = is_do v a b c.if-kind-eq-DO.true in
    done_quietly v (DO _ _) i _ (do_is _ _ _ _ _) _ _ _ _ _ (c.do_times.ensures (on (stands_at v (DO _ _) i)))

pub u16_at-many-requires : goal.u16_at-many-requires
u16_at-many-requires c = omega (arith, puts_long c.requires.meets c.if-kind-eq-PUTS.true)

pub puts-requires : goal.puts-requires
puts-requires c = let a = c.wide-then-kind-eq-PUTS.ensures.0 ∙ c.u16_at-first.ensures.0 in record {
  on = on (stands_at c.requires.meets (PUTS _ _) (is_puts c.requires.meets a c.u16_at-many.ensures.0 c.if-kind-eq-PUTS.true));
  roomy = c.requires.le_kind.1;
}

pub returns-then-kind-eq-PUTS : goal.returns-then-kind-eq-PUTS
returns-then-kind-eq-PUTS c = λ v.
    let a = c.wide-then-kind-eq-PUTS.ensures.0 ∙ c.u16_at-first.ensures.0 in
    let i = is_puts v a c.u16_at-many.ensures.0 c.if-kind-eq-PUTS.true in
    done v (PUTS _ _) i _ (puts_is _ _ _ _ _) _ _ _ _ _ _
    (c.puts.ensures (on (stands_at v (PUTS _ _) i)))

pub u32_at-requires : goal.u32_at-requires
u32_at-requires c = omega (
  arith,
  amount_long c.requires.meets (omega (arith, c.requires.le_kind.0, c.if-kind-eq-DO.false))
      (omega (arith, c.requires.le_kind.0, c.if-kind-eq-BECOME.false, c.if-kind-eq-PUTS.false)),
)

pub putr-requires : goal.putr-requires
putr-requires c = let a = c.wide-amount.ensures.0 ∙ c.u32_at.ensures in
    on (stands_at c.requires.meets (PUTR _ _) (is_putr c.requires.meets c.u16_at-first.ensures.0 a c.if-kind-eq-PUTR.true))

pub returns-then-kind-eq-PUTR : goal.returns-then-kind-eq-PUTR
returns-then-kind-eq-PUTR c = λ v.
    let a = c.wide-amount.ensures.0 ∙ c.u32_at.ensures in
    let i = is_putr v c.u16_at-first.ensures.0 a c.if-kind-eq-PUTR.true in
    done_quietly v (PUTR _ _) i _ (putr_is _ _ _ _ _) _ _ _ _ _ (c.putr.ensures (on (stands_at v (PUTR _ _) i)))

pub putb-requires : goal.putb-requires
putb-requires c = let a = c.wide-amount.ensures.0 ∙ c.u32_at.ensures in
    let e : c.args.kind ≡ 22 =
    omega (arith, c.requires.le_kind.0, c.if-kind-eq-BECOME.false, c.if-kind-eq-DO.false, c.if-kind-eq-PUTS.false, c.if-kind-eq-PUTR.false) in
    on (stands_at c.requires.meets (PUTB _ _) (is_putb c.requires.meets c.u16_at-first.ensures.0 a e))

pub returns : goal.returns
returns c = λ v.
    let a = c.wide-amount.ensures.0 ∙ c.u32_at.ensures in
    let r = c.requires.le_kind.0 in
    let e : c.args.kind ≡ 22 =
    omega (arith, r, c.if-kind-eq-BECOME.false, c.if-kind-eq-DO.false, c.if-kind-eq-PUTS.false, c.if-kind-eq-PUTR.false) in
    let i = is_putb v c.u16_at-first.ensures.0 a e in
    done_quietly v (PUTB _ _) i _ (putb_is _ _ _ _ _) _ _ _ _ _ (c.putb.ensures (on (stands_at v (PUTB _ _) i)))
