-- `file_index::bit` meets its contract. Assumes nothing.
use borrow.Author.Tests.{ltb-true}
use lib.Dec.{eqb}
use mathlib.Core.Path.{◌∙◌}
use native.Mathlib.Omega.{arith}
use Rattle.file_index.proofs.Claims.{bit_exact}
use Rattle.promises.specs.Laws.{and-true}
use Rattle.base_numbers.specs.Limit as Limit
use Rattle.file_index.proofs.bit.Goals as goal

pub u16_at-number-requires : goal.u16_at-number-requires
u16_at-number-requires c = omega (arith, c.requires)

pub u8_at-requires : goal.u8_at-requires
u8_at-requires c = omega (arith, c.requires)

pub overflow_shl-result : goal.overflow_shl-result
overflow_shl-result c = ltb-true _ Limit.THINGS (and-true (eqb c.u8_at.result c.args.j) _ c.if-u8_at-j.true).1

pub returns-then-u8_at-j : goal.returns-then-u8_at-j
returns-then-u8_at-j c = let n = c.u16_at-number in
    let a = and-true (eqb c.u8_at.result c.args.j) _ c.if-u8_at-j.true in
    let t = rw (c.u8_at.ensures.0, n.ensures.0) at c.if-u8_at-j.true in
    bit_exact n.result (ltb-true n.result Limit.THINGS a.1) ∙ rw (t, n.ensures.0)

pub returns : goal.returns
returns c = let t = rw (c.u8_at.ensures.0, c.u16_at-number.ensures.0) at c.if-u8_at-j.false in
    rw t
