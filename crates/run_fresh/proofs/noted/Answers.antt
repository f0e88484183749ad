-- `run_fresh::noted` meets its contract: one number written, or none. Assumes nothing.
use native.Mathlib.Omega.{arith}
use mathlib.Core.Path.{refl}
use Rattle.run_fresh.proofs.noted.Goals as goal

pub bounds-w-n : goal.bounds-w-n
bounds-w-n c = let h = rw c.if-on.true at c.requires in omega (arith, h)

pub returns-then-on : goal.returns-then-on
returns-then-on c = rw c.if-on.true (record { next_is = refl; after_is = refl })

pub returns : goal.returns
returns c = rw c.if-on.false (record { next_is = omega arith; after_is = refl })
