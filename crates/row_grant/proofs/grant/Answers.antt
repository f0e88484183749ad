-- `row_grant::grant` meets its contract. Assumes nothing.
use mathlib.Core.Path.{◌∙◌}
use Rattle.row_grant.proofs.Granting.{in_map, its_claim, goes_in, gone_in, goes_past, gone_past}
use Rattle.row_grant.proofs.grant.Goals as goal

pub number_at-at-requires : goal.number_at-at-requires
number_at-at-requires c = in_map c.requires

pub take_all-requires : goal.take_all-requires
take_all-requires c = its_claim c.requires c.number_at-at.ensures

pub into-requires : goal.into-requires
into-requires c = let v = c.requires in
    let at = c.number_at-at.ensures in
    goes_in v at c.take_all.ensures
    (c.wide-block.ensures.0 ∙ c.u16_at.ensures.0) c.if-enters.true

pub returns-then-enters : goal.returns-then-enters
returns-then-enters c = λ v.
    let at = c.number_at-at.ensures in
    let told = c.take_all.ensures in
    let wide = c.wide-block.ensures.0 in
    let b = wide ∙ c.u16_at.ensures.0 in
    gone_in v at told b c.if-enters.true c.into.ensures

pub past-requires : goal.past-requires
past-requires c = let v = c.requires in
    let at = c.number_at-at.ensures in
    goes_past v at c.take_all.ensures c.if-enters.false

pub returns : goal.returns
returns c = λ v.
    let at = c.number_at-at.ensures in
    let told = c.take_all.ensures in
    gone_past v at told c.if-enters.false c.past.ensures
