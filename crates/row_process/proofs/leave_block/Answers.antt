-- `row_process::leave_block` meets its contract: without the innermost block it is back; past the action is one step on.
-- Assumes nothing.
use mathlib.Core.Path.{◌∙◌, ap}
use Rattle.row_process.proofs.Blocks.{came_back, went_past, going_past}
use Rattle.row_process.specs.Process.{at_first}
use Rattle.row_work.specs.Work.{work_of}
use Rattle.row_process.proofs.leave_block.Goals as goal

pub drop_block-requires : goal.drop_block-requires
drop_block-requires c = at_first c.requires

pub returns-then-back : goal.returns-then-back
returns-then-back c = λ d. c.drop_block.ensures (at_first d) ∙ came_back _ d c.if-back.true

pub past-requires : goal.past-requires
past-requires c = let d = c.requires in
    going_past _ d c.if-back.false (c.drop_block.ensures (at_first d))

pub returns : goal.returns
returns c = λ d. let g = going_past _ d c.if-back.false (c.drop_block.ensures (at_first d)) in
    c.past.ensures g ∙ ap work_of (went_past _ d c.if-back.false)
