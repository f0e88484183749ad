-- `row_sound::named` meets its contract: the outermost block is a class body,
-- any other is named where the one around it stands. Assumes nothing.
use native.Mathlib.Omega.{arith}
use mathlib.Core.Path.{◌∙◌}
use Rattle.row_sound.proofs.Chains.{few_classes, outermost, within, outer_stands, named_within}
use Rattle.row_sound.proofs.named.Goals as goal

pub is_body-requires : goal.is_body-requires
is_body-requires c = let v = c.requires in (v.mapped.long, few_classes v)

pub returns-then-k-eq0 : goal.returns-then-k-eq0
returns-then-k-eq0 c = λ v. rw c.is_body.ensures (outermost v c.if-k-eq0.true)

pub action_in-a-requires : goal.action_in-a-requires
action_in-a-requires c = let v = c.requires in
    let i = within v c.if-k-eq0.false in
    (v.mapped.long, (omega (arith, i.outer_block, i.first_sized.block_low), omega arith))

pub enters_at-requires : goal.enters_at-requires
enters_at-requires c = outer_stands c.requires c.if-k-eq0.false _ c.action_in-a.ensures

pub returns : goal.returns
returns c = λ v. let e = c.action_in-a.ensures in
    let g = c.if-k-eq0.false in
    c.enters_at.ensures (outer_stands v g _ e) ∙ named_within v g _ e
