-- `base_i32::multiply` meets its contract: the product of the magnitudes, above or below the middle by the signs. Assumes
-- nothing.
use Prim.Native.Nat.{◌*◌, ◌≤◌}
use lib.IntN.{◌*ℤ◌}
use native.Mathlib.Omega.{arith}
use Rattle.base_i32.proofs.Sums.{product_fits, same_signs, other_signs}
use Rattle.base_i32.specs.Code.{value_of, MIDDLE}
use Rattle.base_i32.proofs.multiply.Goals as goal

pub overflow_mul-product : goal.overflow_mul-product
overflow_mul-product c = let h = product_fits _ _ c.magnitude.ensures.1 c.magnitude-2.ensures.1 in
    record { fits = omega arith }

pub overflow_add-product : goal.overflow_add-product
overflow_add-product c = let h = product_fits _ _ c.magnitude.ensures.1 c.magnitude-2.ensures.1 in
    record { fits = omega arith }

pub overflow_sub-product : goal.overflow_sub-product
overflow_sub-product c = let h = product_fits _ _ c.magnitude.ensures.1 c.magnitude-2.ensures.1 in
    omega arith

pub returns-then-x-y : goal.returns-then-x-y
returns-then-x-y c = let a = c.args in
    c.in_range.ensures (value_of a.x *ℤ value_of a.y)
    (rw (c.magnitude.ensures.0, c.magnitude-2.ensures.0)
    (same_signs a.x a.y c.if-x-y.true))

pub returns-else-x-y : goal.returns-else-x-y
returns-else-x-y c = let a = c.args in
    let p = c.magnitude in
    let q = c.magnitude-2 in
    let h : p.result * q.result ≤ MIDDLE =
    omega (arith, product_fits p.result q.result p.ensures.1 q.ensures.1) in
    c.in_range-else-x-y.ensures (value_of a.x *ℤ value_of a.y)
    (rw (p.ensures.0, q.ensures.0)
    (other_signs a.x a.y c.if-x-y.false (rw (p.ensures.0, q.ensures.0) at h)))
