-- `file_index::noted` meets its contract: one number written, or none. Assumes nothing.
use mathlib.Core.Path.{refl}
use native.Mathlib.Omega.{arith}
use Rattle.file_index.proofs.noted.Goals as goal

pub bounds-out-n : goal.bounds-out-n
bounds-out-n g c = let h = rw c.if-on.true at c.requires in omega (arith, h)

pub returns-then-on : goal.returns-then-on
returns-then-on g c = rw c.if-on.true (record { next_is = refl; after_is = refl })

pub returns : goal.returns
returns g c = rw c.if-on.false (record { next_is = omega arith; after_is = refl })
