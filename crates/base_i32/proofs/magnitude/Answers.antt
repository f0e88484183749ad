-- `base_i32::magnitude` meets its contract. Assumes nothing.
use mathlib.Core.Path.{◌∙◌}
use native.Mathlib.Omega.{arith}
use Rattle.base_i32.proofs.Sums.{magnitude_low, magnitude_high}
use Rattle.base_i32.proofs.magnitude.Goals as goal

pub returns-then-x-lt-ZERO : goal.returns-then-x-lt-ZERO
returns-then-x-lt-ZERO c = let w = c.wide.ensures.0 in
    (w ∙ magnitude_low c.args.x c.if-x-lt-ZERO.true, omega arith)

pub returns-else-x-lt-ZERO : goal.returns-else-x-lt-ZERO
returns-else-x-lt-ZERO c = let w = c.wide-else-x-lt-ZERO.ensures.0 in
    (w ∙ magnitude_high c.args.x c.if-x-lt-ZERO.false, omega (arith, c.ranges.x.fits))
