-- `row_sound::number_at` meets its contract: a u32 is a usize. Assumes nothing.
use native.Mathlib.Omega.{arith}
use mathlib.Core.Path.{refl}
use Rattle.row_sound.proofs.number_at.Goals as goal

pub returns : goal.returns
returns c = (refl, omega (arith, c.shared_slice_known-1.given c.args.i))
