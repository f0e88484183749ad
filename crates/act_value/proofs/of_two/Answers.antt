-- `act_value::of_two` meets its contract. Assumes nothing.
use Prim.Native.Nat.{◌≤◌}
use mathlib.Core.Path.{ap}
use native.Mathlib.Omega.{arith}
use Rattle.base_i32.specs.Code.{value_of, a_value}
use Rattle.act_value.proofs.Values.{last_op}
use Rattle.act_value.specs.Reading.{of_two}
use Rattle.act_value.proofs.of_two.Goals as goal

pub returns-then-not-both : goal.returns-then-not-both
returns-then-not-both c = rw (c.if-not-both.true)

pub returns-in-3 : goal.returns-in-3
unfolding of_two
returns-in-3 c = let b = c.if-not-both.false in
    rw (b, c.in-3.is) c.add.ensures

pub returns-in-4 : goal.returns-in-4
unfolding of_two
returns-in-4 c = let b = c.if-not-both.false in
    rw (b, c.in-4.is) c.subtract.ensures

pub returns-in-5 : goal.returns-in-5
unfolding of_two
returns-in-5 c = let b = c.if-not-both.false in
    rw (b, c.in-5.is) c.multiply.ensures

pub returns-in-6 : goal.returns-in-6
unfolding of_two
returns-in-6 c = let b = c.if-not-both.false in
    rw (b, c.in-6.is) (ap a_value c.lesser.ensures)

pub returns-in_default : goal.returns-in_default
returns-in_default c = let r = c.in_default.in_default-own.rest in
    let a = c.args in
    let h : 7 ≤ a.op = omega (arith, c.requires, r.0.0.0.1, r.0.0.1, r.0.1, r.1) in
    rw (c.if-not-both.false, last_op a.op (value_of a.x) (value_of a.y) h)
    (ap a_value c.greater.ensures)
