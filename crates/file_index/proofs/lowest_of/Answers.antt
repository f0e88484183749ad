-- `file_index::lowest_of` meets its contract, by cases. Assumes nothing.
use borrow.Author.Tests.{eq-eqb, ne_eqb}
use native.Mathlib.Omega.{arith}
use Rattle.file_index.proofs.Bodies.{sampler_head}
use Rattle.file_index.proofs.lowest_of.Goals as goal

pub u32_at-requires : goal.u32_at-requires
u32_at-requires c = omega (arith, sampler_head c.requires c.if-kind-eq-SAMPLER.true)

pub returns-then-kind-eq-SAMPLER : goal.returns-then-kind-eq-SAMPLER
returns-then-kind-eq-SAMPLER c = rw (eq-eqb _ _ c.if-kind-eq-SAMPLER.true, c.from_twos.ensures, c.u32_at.ensures)

pub returns : goal.returns
returns c = rw (ne_eqb _ _ c.if-kind-eq-SAMPLER.false)
