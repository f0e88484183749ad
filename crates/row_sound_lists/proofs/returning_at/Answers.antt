-- `row_sound_lists::returning_at` meets its contract: by the kind and the number in the word. Assumes nothing.
use native.Mathlib.Omega.{arith}
use mathlib.Core.Path.{refl}
use Rattle.row_sound_lists.proofs.returning_at.Goals as goal

pub returns-then-here : goal.returns-then-here
returns-then-here c = let k = c.kind_of.ensures.0 in
    let n = c.number_of.ensures.0 in
    let t = rw (k, n) at c.if-here.true in
    (rw t c.amount_of.ensures.0, omega (arith, c.amount_of.ensures.1))

pub returns-else-here : goal.returns-else-here
returns-else-here c = let k = c.kind_of.ensures.0 in
    let n = c.number_of.ensures.0 in
    let t = rw (k, n) at c.if-here.false in
    (rw t refl, omega arith)
