-- `base_i32::negate` meets its contract: 0 less a number is that number negated. Assumes nothing.
use mathlib.Core.Path.{◌∙◌}
use Rattle.base_i32.proofs.Sums.{from_zero}
use Rattle.base_i32.proofs.negate.Goals as goal

pub returns : goal.returns
returns c = c.subtract.ensures ∙ from_zero c.args.x
