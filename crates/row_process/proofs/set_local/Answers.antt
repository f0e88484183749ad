-- `row_process::set_local` meets its contract: the word at 4 + i of its row. Assumes nothing.
use mathlib.Core.Path.{◌∙◌}
use native.Mathlib.Omega.{arith}
use Rattle.row_process.proofs.Standing.{is_long, local_there, local_written}
use Rattle.row_process.specs.Process.{at_first}
use Rattle.row_process.proofs.set_local.Goals as goal

pub overflow_add-i : goal.overflow_add-i
overflow_add-i c = let v = at_first c.requires in
    let a = c.args in
    omega (arith, local_there v a.p v.given.lives.in_places a.i v.given.there)

pub set_word-requires : goal.set_word-requires
set_word-requires c = let v = at_first c.requires in
    let l = v.given.lives.in_places in
    (is_long v, (l, local_there v _ l _ v.given.there))

pub returns : goal.returns
returns c = λ d. c.set_word.ensures
    ∙ local_written (at_first d) _ d.given.lives.in_places _ _ d.given.there
