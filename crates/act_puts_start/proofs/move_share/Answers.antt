-- `act_puts_start::move_share` meets its contract. Assumes nothing.
use mathlib.Core.Path.{◌∙◌}
use Rattle.act_puts_start.proofs.Sharing.{gives_away, given_away, takes_up, taken_up}
use Rattle.act_puts_start.proofs.move_share.Goals as goal

pub give_back-requires : goal.give_back-requires
give_back-requires c = gives_away c.u16_at-of.ensures.0 (c.wide-amount.ensures.0 ∙ c.u32_at.ensures) _ c.if-away.true
    c.requires.0

pub returns-then-away : goal.returns-then-away
returns-then-away c = given_away c.u16_at-of.ensures.0 (c.wide-amount.ensures.0 ∙ c.u32_at.ensures) _ c.if-away.true
    c.give_back.ensures

pub take_up-requires : goal.take_up-requires
take_up-requires c = takes_up c.u16_at-of.ensures.0 (c.wide-amount.ensures.0 ∙ c.u32_at.ensures) _ c.if-away.false
    c.requires.0

pub returns : goal.returns
returns c = taken_up c.u16_at-of.ensures.0 (c.wide-amount.ensures.0 ∙ c.u32_at.ensures) _ c.if-away.false
    c.take_up.ensures
