-- `row_process::held_of` meets its contract: the word at 12 + i of its row. Assumes nothing.
use mathlib.Core.Path.{◌∙◌}
use native.Mathlib.Omega.{arith}
use Rattle.row_process.proofs.Holding.{held_there, held_is, held_low}
use Rattle.row_process.proofs.Standing.{is_long}
use Rattle.row_process.proofs.held_of.Goals as goal

pub overflow_add-i : goal.overflow_add-i
overflow_add-i c = let v = c.requires in omega (arith, held_there v v.given.0 v.given.1)

pub word-requires : goal.word-requires
word-requires c = let v = c.requires in (is_long v, (v.given.0, held_there v v.given.0 v.given.1))

pub returns : goal.returns
returns c = let e = c.word.ensures in
    let v = c.requires in
    (λ u. e ∙ held_is u u.given.0 u.given.1, omega (arith, e, held_low v v.given.0 v.given.1))
