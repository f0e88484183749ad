-- `base_i32::greater` meets its contract. Assumes nothing.
use borrow.Author.Tests.{le-leb, lt-leb}
use mathlib.Core.Path.{sym}
use Rattle.base_i32.specs.Laws.{value_order, code-value_of}
use Rattle.base_i32.proofs.greater.Goals as goal

pub returns-then-x-y : goal.returns-then-x-y
returns-then-x-y c = let a = c.args in
    rw (value_order a.x a.y, le-leb a.x a.y c.if-x-y.true) (sym (code-value_of _))

pub returns-else-x-y : goal.returns-else-x-y
returns-else-x-y c = let a = c.args in
    rw (value_order a.x a.y, lt-leb a.x a.y c.if-x-y.false) (sym (code-value_of _))
