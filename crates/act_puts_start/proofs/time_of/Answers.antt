-- `act_puts_start::time_of` meets its contract. Assumes nothing.
use native.Mathlib.Omega.{arith}
use Rattle.act_puts_start.proofs.time_of.Goals as goal

pub returns : goal.returns
returns c = λ v. omega (arith, c.clock_of.ensures.0 v, c.u32_at.ensures, c.wide.ensures.0)
