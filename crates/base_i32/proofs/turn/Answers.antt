-- `base_i32::turn` meets its contract. Assumes nothing.
use native.Mathlib.Omega.{arith}
use Rattle.base_i32.specs.Code.{turned}
use Rattle.base_i32.proofs.turn.Goals as goal

pub returns-then-n-lt-ZERO : goal.returns-then-n-lt-ZERO
unfolding turned
returns-then-n-lt-ZERO c = omega arith

pub returns-else-n-lt-ZERO : goal.returns-else-n-lt-ZERO
unfolding turned
returns-else-n-lt-ZERO c = omega (arith, c.ranges.n.fits)
