-- `file_index::values_of` meets its contract: the codes of the ends are as far apart as the ends. Assumes nothing.
use borrow.Author.Tests.{eq-eqb, ne_eqb}
use native.Mathlib.Omega.{arith}
use Rattle.file_index.proofs.Bodies.{sampler_head, sampler_judged, low_first, values_few, values_are}
use Rattle.file_index.proofs.values_of.Goals as goal

pub u32_at-requires : goal.u32_at-requires
u32_at-requires c = omega (arith, sampler_head c.requires c.if-kind-eq-SAMPLER.true)

pub u32_at-requires-then-kind-eq-SAMPLER : goal.u32_at-requires-then-kind-eq-SAMPLER
u32_at-requires-then-kind-eq-SAMPLER c = omega (arith, sampler_head c.requires c.if-kind-eq-SAMPLER.true)

pub overflow_sub-result : goal.overflow_sub-result
overflow_sub-result c = rw (c.from_twos-lowest.ensures, c.u32_at.ensures, c.from_twos-highest.ensures, c.u32_at-then-kind-eq-SAMPLER.ensures)
    (low_first c.args.bs.now (sampler_judged c.requires c.if-kind-eq-SAMPLER.true))

pub overflow_add-result : goal.overflow_add-result
overflow_add-result c = let f = rw (
  ← c.u32_at.ensures,
  ← c.u32_at-then-kind-eq-SAMPLER.ensures,
  ← c.from_twos-lowest.ensures,
  ← c.from_twos-highest.ensures,
) at (values_few c.args.bs.now (sampler_judged c.requires c.if-kind-eq-SAMPLER.true)) in
    omega (arith, f)

pub returns-then-kind-eq-SAMPLER : goal.returns-then-kind-eq-SAMPLER
returns-then-kind-eq-SAMPLER c = rw (
  eq-eqb _ _ c.if-kind-eq-SAMPLER.true,
  c.from_twos-lowest.ensures,
  c.u32_at.ensures,
  c.from_twos-highest.ensures,
  c.u32_at-then-kind-eq-SAMPLER.ensures,
)
    (values_are c.args.bs.now (sampler_judged c.requires c.if-kind-eq-SAMPLER.true))

pub returns : goal.returns
returns c = rw (ne_eqb _ _ c.if-kind-eq-SAMPLER.false)
