-- `row_process::take_up` meets its contract: the state after has room for the sum. Assumes nothing.
use mathlib.Core.Path.{◌∙◌}
use native.Mathlib.Omega.{arith}
use Rattle.row_process.proofs.Holding.{held_written, to_read, to_write, room_held}
use Rattle.row_process.specs.Process.{at_first}
use Rattle.row_process.proofs.take_up.Goals as goal

pub held_of-held-requires : goal.held_of-held-requires
held_of-held-requires c = let v = at_first c.requires in to_read v v.given

pub overflow_add-i : goal.overflow_add-i
overflow_add-i c = let v = at_first c.requires in omega (arith, (to_write v v.given).1.1)

pub overflow_add-held : goal.overflow_add-held
overflow_add-held c = let d = c.requires in
    let a = c.args in
    omega (arith, c.held_of-held.ensures.0 (to_read (at_first d) d.given), room_held a.p a.i a.n d)

pub set_word-requires : goal.set_word-requires
set_word-requires c = let v = at_first c.requires in to_write v v.given

pub returns : goal.returns
returns c = λ d. let v = at_first d in
    let e = c.held_of-held.ensures.0 (to_read v v.given) in
    c.set_word.ensures ∙ held_written v v.given.lives.in_places v.given.there _ _ (omega (arith, e))
