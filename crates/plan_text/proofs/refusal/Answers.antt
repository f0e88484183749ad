-- `plan_text::refusal` meets its contract: four parts, each put behind the one before it. Assumes nothing.
use Rattle.std.proofs.Common.{arith}
use Rattle.plan_text.proofs.Ends.{refused_put}
use Rattle.plan_text.proofs.refusal.Goals as goal

pub returns : goal.returns
returns c =
    refused_put c.new-text.ensures _ _ (omega (arith, c.ranges.number.fits)) (omega (arith, c.ranges.place.fits))
    c.push_str.ensures.bytes c.push_number.ensures.bytes c.push_str-2.ensures.bytes c.push_number-2.ensures.bytes
