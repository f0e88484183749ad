-- `row_sound::link` meets its contract: whatever is named is a block of the model, so the map has its end. Assumes nothing.
use native.Mathlib.Omega.{arith}
use mathlib.Core.Path.{sym, ◌∙◌}
use Rattle.row_sound.proofs.Chains.{block_is, not_linked, is_linked}
use Rattle.row_sound.proofs.link.Goals as goal

pub returns-then-not-named : goal.returns-then-not-named
returns-then-not-named c = λ v. not_linked v (sym (c.named.ensures v) ∙ c.if-not-named.true)

pub number_at-requires : goal.number_at-requires
number_at-requires c = let v = c.requires in omega (arith, v.mapped.long, block_is v, v.frame_sized.block_low)

pub number_at-requires-2 : goal.number_at-requires-2
number_at-requires-2 c = let v = c.requires in
    omega (arith, v.mapped.long, block_is v, v.frame_sized.block_low)

pub returns : goal.returns
returns c = λ v. rw (c.number_at-2.ensures.0, c.number_at.ensures.0)
    (is_linked v (sym (c.named.ensures v) ∙ c.if-not-named.false))
