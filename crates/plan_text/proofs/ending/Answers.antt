-- `plan_text::ending` meets its contract: four parts, each put behind the one before it. Assumes nothing.
use Rattle.std.proofs.Common.{arith}
use Rattle.plan_text.proofs.Ends.{end_put}
use Rattle.plan_text.proofs.ending.Goals as goal

pub returns : goal.returns
returns c =
    end_put c.new-text.ensures _ _ _ (omega (arith, c.ranges.steps.fits)) c.push_answer.ensures.bytes
    c.push_number.ensures.bytes c.push_str.ensures.bytes c.push_bound.ensures
