-- Where sums, differences and products of two numbers stand, and which of them are in the i32 range. Assumes nothing.
use Rattle.std.specs.Prelude.{if◌then◌else◌}
use mathlib.Core.Path.{◌≡◌, refl, sym, ◌∙◌, ap}
use mathlib.Core.Bool.{Bool, true, false, cond, beq}
use Prim.Native.Nat.{ℕ, zero, suc, ◌+◌, ◌*◌, ◌-◌, ◌≤◌, ◌<◌}
use native.Mathlib.Nat.{mul-le-mul}
use native.Mathlib.Omega.{arith}
use borrow.Author.Tests.{lt-ltb, le-ltb, ltb-true, ltb-false}
use lib.Dec.{ltb}
use lib.IntN.{ℤ, pos, negsuc, sub_ℕ, nat_abs, neg_ℤ, ◌+ℤ◌, ◌-ℤ◌, ◌*ℤ◌, +ℤ_idl}
use lib.Signed.{mag}
use Rattle.semantics.specs.Words.{◌>>◌, need}
use Rattle.semantics.specs.Value.{in_range}
use Rattle.base_numbers.specs.Code as Code
use Rattle.base_i32.specs.Code.{code, value_of, a_value, no_value, value_in, MIDDLE, Difference}
use Rattle.base_i32.specs.Laws.{value_stands, code_stands}

no_way : {A : Type 0} → false ≡ true → A
no_way e = let z : ◌≡◌ {A = ℕ} 0 1 = cc in absurd (omega arith)

-- A number in the range has its code; others are no value.
in_range_lem : (v : ℤ) → mag v < Code.ZERO → value_in (in_range v) ≡ a_value (code v)
unfolding ◌>>◌ need
in_range_lem v h = rw (lt-ltb (mag v) Code.ZERO h)

out_of_range : (v : ℤ) → Code.ZERO ≤ mag v → value_in (in_range v) ≡ no_value
unfolding ◌>>◌ need
out_of_range v h = rw (le-ltb (mag v) Code.ZERO h)

-- Where 0 stands in the middle, and the ends of the range about it.
abbrev middle : ℕ
middle = MIDDLE

abbrev lowest : ℕ
lowest = MIDDLE - Code.ZERO

abbrev highest : ℕ
highest = MIDDLE + Code.MINUS_ONE

abbrev At : ℤ → ℕ → Type 0
At v s = Difference v s middle

pub too_low : (v : ℤ) (s : ℕ) → s < lowest → At v s → no_value ≡ value_in (in_range v)
too_low (pos n) s h d = absurd (omega arith)
too_low (negsuc n) s h d = sym (out_of_range (negsuc n) (omega arith))

pub too_high : (v : ℤ) (s : ℕ) → highest < s → At v s → no_value ≡ value_in (in_range v)
too_high (pos n) s h d = sym (out_of_range (pos n) (omega arith))
too_high (negsuc n) s h d = absurd (omega arith)

pub between : (v : ℤ) (s : ℕ) → lowest ≤ s → s ≤ highest → At v s → a_value (s - lowest) ≡ value_in (in_range v)
between v s h k d = go v d
  where
    coded : (v : ℤ) → At v s → mag v < Code.ZERO → a_value (s - lowest) ≡ value_in (in_range v)
    coded v d l = ap a_value (sym (code_stands v (s - lowest) (nearer v d))) ∙ sym (in_range_lem v l)
      where
        nearer : (v : ℤ) → At v s → Difference v (s - lowest) Code.ZERO
        nearer (pos n) d = omega arith
        nearer (negsuc n) d = omega arith

    go : (v : ℤ) → At v s → a_value (s - lowest) ≡ value_in (in_range v)
    go (pos n) d = coded (pos n) d (omega arith)
    go (negsuc n) d = coded (negsuc n) d (omega arith)

-- Sums and differences.
sub_stands : (a b p q : ℕ) → p + b ≡ q + a → Difference (sub_ℕ a b) p q
sub_stands a b p q h = go (ltb a b) refl
  where
    go : (t : Bool) → ltb a b ≡ t → Difference (cond t (negsuc (b - suc a)) (pos (a - b))) p q
    go true e = omega (arith, ltb-true a b e)
    go false e = omega (arith, ltb-false a b e)

pub sum_stands : (v w : ℤ) (p q r s : ℕ) → Difference v p q → Difference w r s → Difference (v +ℤ w) (p + r) (q + s)
sum_stands (pos a) (pos b) p q r s d e = omega arith
sum_stands (pos a) (negsuc b) p q r s d e = sub_stands a (suc b) (p + r) (q + s) (omega arith)
sum_stands (negsuc a) (pos b) p q r s d e = sub_stands b (suc a) (p + r) (q + s) (omega arith)
sum_stands (negsuc a) (negsuc b) p q r s d e = omega arith

negated_stands : (v : ℤ) (p q : ℕ) → Difference v p q → Difference (neg_ℤ v) q p
negated_stands (pos zero) p q d = omega arith
negated_stands (pos (suc n)) p q d = omega arith
negated_stands (negsuc n) p q d = omega arith

moved : (v : ℤ) (p q r s : ℕ) → p + s ≡ r + q → Difference v p q → Difference v r s
moved (pos n) p q r s e d = omega arith
moved (negsuc n) p q r s e d = omega arith

pub sum_at : (x y : ℕ) → At (value_of x +ℤ value_of y) (middle - Code.CODES + x + y)
sum_at x y =
    moved (value_of x +ℤ value_of y) (x + y) Code.CODES _ _ (omega arith)
    (sum_stands (value_of x) (value_of y) x Code.ZERO y Code.ZERO (value_stands x) (value_stands y))

pub difference_at : (x y : ℕ) → y < Code.CODES → At (value_of x -ℤ value_of y) (middle + x - y)
difference_at x y h =
    moved (value_of x -ℤ value_of y) (x + Code.ZERO) (Code.ZERO + y) _ _ (omega arith)
    (sum_stands (value_of x) (neg_ℤ (value_of y)) x Code.ZERO Code.ZERO y (value_stands x)
    (negated_stands (value_of y) y Code.ZERO (value_stands y)))

pub from_zero : (x : ℕ) → value_in (in_range (value_of Code.ZERO -ℤ value_of x)) ≡ value_in (in_range (neg_ℤ (value_of x)))
unfolding value_of
from_zero x = ap (λ (v : ℤ). value_in (in_range v)) (+ℤ_idl (neg_ℤ (value_of x)))

-- Products.
pub magnitude_low : (x : ℕ) → x < Code.ZERO → Code.ZERO - x ≡ nat_abs (value_of x)
unfolding value_of
magnitude_low x h = rw (lt-ltb x Code.ZERO h) (omega arith)

pub magnitude_high : (x : ℕ) → Code.ZERO ≤ x → x - Code.ZERO ≡ nat_abs (value_of x)
unfolding value_of
magnitude_high x h = rw (le-ltb x Code.ZERO h)

pub product_fits : (p q : ℕ) → p ≤ Code.ZERO → q ≤ Code.ZERO → p * q ≤ Code.ZERO * Code.ZERO
product_fits p q h k = mul-le-mul h k

negated_at : (n : ℕ) → n ≤ middle → At (neg_ℤ (pos n)) (middle - n)
negated_at n h = negated_stands (pos n) middle (middle - n) (omega arith)

-- What the number of code x is, by the test whether it is negative.
abbrev by_test : Bool → ℕ → ℤ
by_test t x = if t then negsuc (Code.MINUS_ONE - x) else pos (x - Code.ZERO)

module _ (x y : ℕ) where
  abbrev product : ℕ
  product = nat_abs (value_of x) * nat_abs (value_of y)

  pub same_signs : beq (ltb x Code.ZERO) (ltb y Code.ZERO) ≡ true →
      At (value_of x *ℤ value_of y) (middle + product)
  unfolding value_of
  same_signs = go (ltb x Code.ZERO) (ltb y Code.ZERO)
    where
      go : (t u : Bool) → beq t u ≡ true →
          At (by_test t x *ℤ by_test u y) (middle + nat_abs (by_test t x) * nat_abs (by_test u y))
      go true true e = refl
      go true false e = no_way e
      go false true e = no_way e
      go false false e = refl

  pub other_signs : beq (ltb x Code.ZERO) (ltb y Code.ZERO) ≡ false → product ≤ middle →
      At (value_of x *ℤ value_of y) (middle - product)
  unfolding value_of
  other_signs = go (ltb x Code.ZERO) (ltb y Code.ZERO)
    where
      go : (t u : Bool) → beq t u ≡ false → nat_abs (by_test t x) * nat_abs (by_test u y) ≤ middle →
          At (by_test t x *ℤ by_test u y) (middle - nat_abs (by_test t x) * nat_abs (by_test u y))
      go true true e h = no_way (sym e)
      go true false e h = negated_at _ h
      go false true e h = negated_at _ h
      go false false e h = no_way (sym e)
