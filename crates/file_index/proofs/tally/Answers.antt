-- `file_index::tally` meets its contract. Assumes nothing.
use native.Mathlib.Omega.{arith}
use mathlib.Core.Path.{refl}
use Rattle.file_index.proofs.tally.Goals as goal

pub returns-then-on : goal.returns-then-on
returns-then-on c = rw c.if-on.true refl

pub returns-else-on : goal.returns-else-on
returns-else-on c = rw c.if-on.false (omega arith)
