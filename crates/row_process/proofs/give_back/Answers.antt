-- `row_process::give_back` meets its contract: what is given back is held. Assumes nothing.
use mathlib.Core.Path.{◌∙◌}
use native.Mathlib.Omega.{arith}
use Rattle.row_process.proofs.Holding.{held_written, to_read, to_write}
use Rattle.row_process.specs.Process.{at_first}
use Rattle.row_process.proofs.give_back.Goals as goal

pub held_of-held-requires : goal.held_of-held-requires
held_of-held-requires c = let v = at_first c.requires in to_read v v.given.claims

pub overflow_add-i : goal.overflow_add-i
overflow_add-i c = let v = at_first c.requires in omega (arith, (to_write v v.given.claims).1.1)

pub overflow_sub-held : goal.overflow_sub-held
overflow_sub-held c = let v = at_first c.requires in
    omega (arith, c.held_of-held.ensures.0 (to_read v v.given.claims), v.given.enough)

pub set_word-requires : goal.set_word-requires
set_word-requires c = let v = at_first c.requires in to_write v v.given.claims

pub returns : goal.returns
returns c = λ d. let v = at_first d in
    let k = v.given.claims in
    let e = c.held_of-held.ensures.0 (to_read v k) in
    c.set_word.ensures ∙ held_written v k.lives.in_places k.there _ _ (omega (arith, e))
