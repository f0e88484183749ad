-- `act_floor::clock_of` meets its contract: word 0 of the work is the clock. Assumes nothing.
use native.Mathlib.Omega.{arith}
use Rattle.act_floor.proofs.Reading.{is_long, clock_is, clock_low}
use Rattle.act_floor.proofs.clock_of.Goals as goal

pub bounds-w-0 : goal.bounds-w-0
bounds-w-0 c = omega (arith, is_long c.requires)

pub returns : goal.returns
returns c = ((λ v. clock_is v), clock_low c.requires)
