-- `act_block_end::leave` meets its contract: out of the block, and past the action that named it, but a WHILE. Assumes nothing.
use mathlib.Core.Path.{◌∙◌}
use Rattle.act_floor.specs.Onward.{passing}
use Rattle.act_floor.specs.Running.{on}
use Rattle.act_block_end.proofs.Leaving.{going_out, gone_out, backing, left_there, left_behind}
use Rattle.act_block_end.proofs.leave.Goals as goal

pub leave_block-requires : goal.leave_block-requires
leave_block-requires c = going_out c.requires

pub at_while-requires : goal.at_while-requires
at_while-requires c = let v = c.requires in
    backing v (c.leave_block.ensures (going_out v) ∙ gone_out v)

pub returns-then-at_while : goal.returns-then-at_while
returns-then-at_while c = λ v.
    let e = c.leave_block.ensures (going_out v) ∙ gone_out v in
    e ∙ left_there v (c.at_while.ensures (backing v e)) c.if-at_while.true

pub past-requires : goal.past-requires
past-requires c = let v = c.requires in
    passing (on (backing v (c.leave_block.ensures (going_out v) ∙ gone_out v)).acting)

pub returns : goal.returns
returns c = λ v.
    let e = c.leave_block.ensures (going_out v) ∙ gone_out v in
    c.past.ensures (passing (on (backing v e).acting))
    ∙ left_behind v (c.at_while.ensures (backing v e)) c.if-at_while.false
