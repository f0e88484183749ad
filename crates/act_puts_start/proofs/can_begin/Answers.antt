-- `act_puts_start::can_begin` meets its contract. Assumes nothing.
use native.Mathlib.Omega.{arith}
use Rattle.act_floor.proofs.Reading.{is_long}
use Rattle.act_puts_start.proofs.Reading.{living_is}
use Rattle.act_puts_start.proofs.can_begin.Goals as goal

pub bounds-w-4 : goal.bounds-w-4
bounds-w-4 c = omega (arith, is_long c.requires)

pub returns : goal.returns
returns c = λ v. rw (c.living_count.ensures.0 _ (living_is v), c.last_of.ensures.0 v)
