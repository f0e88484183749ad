-- `row_slaves::add_slave` meets its contract: the state after has room for one more. Assumes nothing.
use mathlib.Core.Path.{◌∙◌, ap}
use native.Mathlib.Omega.{arith}
use lib.ListN.{length, length-set}
use Rattle.row_process.specs.Process.{at_first}
use Rattle.row_slaves.proofs.Standing.{is_long, slave_sized, count_low, one_more}
use Rattle.row_slaves.proofs.add_slave.Goals as goal

pub word-many-requires : goal.word-many-requires
word-many-requires c = let d = c.requires in (is_long (at_first d), (d.given.in_places, omega arith))

pub overflow_add-many : goal.overflow_add-many
overflow_add-many c = omega (arith, count_low c.requires _ c.word-many.ensures)

pub overflow_mul-i : goal.overflow_mul-i
overflow_mul-i c = omega (arith, (slave_sized c.requires).0)

pub overflow_add-i : goal.overflow_add-i
overflow_add-i c = let a = slave_sized c.requires in omega (arith, a.0, a.1)

pub set_word-requires : goal.set_word-requires
set_word-requires c = let d = c.requires in
    (is_long (at_first d), (d.given.in_places, omega (arith, count_low d _ c.word-many.ensures)))

pub overflow_add-many-2 : goal.overflow_add-many-2
overflow_add-many-2 c = let d = c.requires in
    omega (arith, count_low d _ c.word-many.ensures)

pub set_word-requires-2 : goal.set_word-requires-2
set_word-requires-2 c = let d = c.requires in
    let e = ap length c.set_word.ensures in
    (e ∙ simp length-set (is_long (at_first d)), (d.given.in_places, omega arith))

pub returns : goal.returns
returns c = λ d. one_more d _ c.word-many.ensures _ _ c.set_word.ensures c.set_word-2.ensures
