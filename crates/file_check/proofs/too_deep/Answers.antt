-- `file_check::too_deep` meets its contract, by cases: it asks for the depth of a CLASS's block only. Assumes nothing.
use borrow.Author.Tests.{eq-eqb, ne_eqb}
use lib.Dec.{ltb}
use mathlib.Core.Path.{refl, ap}
use Rattle.file_check.proofs.too_deep.Goals as goal

pub u16_at-b-requires : goal.u16_at-b-requires
u16_at-b-requires c = (c.requires c.if-kind-eq-CLASS.true).0

pub depth-requires : goal.depth-requires
depth-requires c = rw c.u16_at-b.ensures.0 (c.requires c.if-kind-eq-CLASS.true).1

pub returns-then-kind-eq-CLASS : goal.returns-then-kind-eq-CLASS
returns-then-kind-eq-CLASS c = let u = c.u16_at-b.ensures.0 in record {
  blocks = c.depth.ensures.blocks;
  memo = rw (eq-eqb _ _ c.if-kind-eq-CLASS.true) (rw u at c.depth.ensures.memo);
  value = rw (eq-eqb _ _ c.if-kind-eq-CLASS.true) (ap (ltb 8) (rw u at c.depth.ensures.value));
}

pub returns : goal.returns
returns c = record {
  blocks = refl;
  memo = rw (ne_eqb _ _ c.if-kind-eq-CLASS.false) refl;
  value = rw (ne_eqb _ _ c.if-kind-eq-CLASS.false) refl;
}
