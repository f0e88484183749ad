-- `file_bound::entity_weight` meets its contract, by cases. Assumes nothing.
use borrow.Author.Tests.{eq-eqb, ne_eqb}
use mathlib.Core.Path.{refl}
use native.Mathlib.Omega.{arith}
use Rattle.file_bound.proofs.entity_weight.Goals as goal

pub u16_at-requires : goal.u16_at-requires
u16_at-requires c = (c.requires c.if-kind-eq-ENTITY.true).there

pub body_of-b-requires : goal.body_of-b-requires
body_of-b-requires c = omega (arith, c.u16_at.ensures.0, (c.requires c.if-kind-eq-ENTITY.true).class_in)

pub class-requires : goal.class-requires
class-requires c = let b = c.requires c.if-kind-eq-ENTITY.true in
    rw (c.body_of-b.ensures, c.u16_at.ensures.0) b.block_in

pub returns-then-kind-eq-ENTITY : goal.returns-then-kind-eq-ENTITY
returns-then-kind-eq-ENTITY c = let e = c.body_of-b.ensures in
    let u = c.u16_at.ensures.0 in record {
      actions = c.class.ensures.actions;
      memo = rw (eq-eqb _ _ c.if-kind-eq-ENTITY.true) (rw (e, u) at c.class.ensures.memo);
      value = rw (eq-eqb _ _ c.if-kind-eq-ENTITY.true) (rw (e, u) at c.class.ensures.value);
    }

pub returns : goal.returns
returns c = record {
  actions = refl;
  memo = rw (ne_eqb _ _ c.if-kind-eq-ENTITY.false) refl;
  value = rw (ne_eqb _ _ c.if-kind-eq-ENTITY.false) refl;
}
