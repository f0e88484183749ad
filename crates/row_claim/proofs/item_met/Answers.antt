-- `row_claim::item_met` meets its contract. Assumes nothing.
use mathlib.Core.Path.{◌∙◌}
use native.Mathlib.Omega.{arith}
use Rattle.row_claim.proofs.Items.{is_long, number_low, is_got, is_held}
use Rattle.row_claim.proofs.item_met.Goals as goal

pub there-has-requires : goal.there-has-requires
there-has-requires c = let d = c.requires.0 in
    (is_long _ _ d, omega (arith, number_low _ _ d, c.u16_at-number.ensures.0))

pub returns-then-kind-le-GET_S : goal.returns-then-kind-le-GET_S
returns-then-kind-le-GET_S c = λ d.
    let k = c.u8_at-kind.ensures.0 in
    let j = c.u16_at-number.ensures.0 in
    rw (c.wide.ensures.0, c.u32_at-amount.ensures, c.there-has.ensures, k, j)
    (is_got _ _ d (omega (arith, k, c.if-kind-le-GET_S.true)))

pub returns : goal.returns
returns c = λ d.
    let k = c.u8_at-kind.ensures.0 in
    let r = c.u8_at-relation.ensures.0 in
    let j = c.u16_at-number.ensures.0 in
    let n = c.u32_at-amount.ensures in
    let x = c.there-has.ensures in
    c.holds.ensures
    ∙ rw (c.wide-bound.ensures.0, c.from_twos.ensures, n, x, k, r, j)
    (is_held _ _ d (omega (arith, k, c.if-kind-le-GET_S.false)))
