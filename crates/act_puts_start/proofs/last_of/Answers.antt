-- `act_puts_start::last_of` meets its contract. Assumes nothing.
use native.Mathlib.Omega.{arith}
use Rattle.act_floor.proofs.Reading.{is_long}
use Rattle.act_puts_start.proofs.Reading.{last_is, last_low}
use Rattle.act_puts_start.proofs.last_of.Goals as goal

pub bounds-w-2 : goal.bounds-w-2
bounds-w-2 c = omega (arith, is_long c.requires)

pub returns : goal.returns
returns c = (λ v. last_is v, last_low c.requires)
