-- `act_puts_start::has_share` meets its contract. Assumes nothing.
use mathlib.Core.Path.{◌∙◌}
use Rattle.semantics.specs.Record.{share_of}
use Rattle.act_puts_start.proofs.Sharing.{asked, answers}
use Rattle.act_puts_start.proofs.has_share.Goals as goal

pub held_of-requires : goal.held_of-requires
held_of-requires c = asked (share_of c.args.i.now) c.u16_at-of.ensures.0 c.requires.0

pub returns : goal.returns
returns c = answers (share_of c.args.i.now) c.u16_at-of.ensures.0
    (c.wide-amount.ensures.0 ∙ c.u32_at.ensures)
    c.held_of.ensures.0
