-- `act_walk::blocked_count` meets its contract. Assumes nothing.
use native.Mathlib.Omega.{arith}
use Rattle.act_floor.proofs.Reading.{is_long}
use Rattle.act_walk.proofs.Reading.{count_is, count_low}
use Rattle.act_walk.proofs.blocked_count.Goals as goal

pub bounds-w-6 : goal.bounds-w-6
bounds-w-6 c = omega (arith, is_long c.requires)

pub returns : goal.returns
returns c = ((λ v. count_is v), count_low c.requires)
