-- The relations between two numbers, told from their codes. Assumes nothing.
use Prim.Native.Nat.{ℕ, zero, suc}
use native.Mathlib.Omega.{arith}
use mathlib.Core.Path.{◌≡◌, refl, sym, ◌∙◌, ap}
use mathlib.Core.Bool.{Bool, true, false, not, ◌&&◌}
use borrow.Author.Tests.{lt-ltb, le-ltb, leb-true, leb-false, eq-eqb, ne_eqb}
use lib.Dec.{eqb, leb, ltb}
use lib.IntN.{ℤ, pos, negsuc}
use lib.Signed.{lt_z, le_z}
use Rattle.semantics.specs.Model.{equals}
use Rattle.semantics.specs.Record.{relation_of}
use Rattle.base_i32.specs.Code.{value_of}
use Rattle.base_i32.specs.Laws.{value_order}

-- Below is not at least,
below_or_not : (x y : ℕ) → ltb x y ≡ not (leb y x)
below_or_not x y = by (leb y x) refl
  where
    by : (t : Bool) → leb y x ≡ t → ltb x y ≡ not t
    by true e = le-ltb x y (leb-true y x e)
    by false e = lt-ltb x y (leb-false y x e)

less_or_not : (v w : ℤ) → lt_z v w ≡ not (le_z w v)
less_or_not (pos a) (pos b) = below_or_not a b
less_or_not (pos a) (negsuc b) = refl
less_or_not (negsuc a) (pos b) = refl
less_or_not (negsuc a) (negsuc b) = below_or_not b a

pub codes_below : (x y : ℕ) → ltb x y ≡ lt_z (value_of x) (value_of y)
codes_below x y = below_or_not x y ∙ ap not (sym (value_order y x)) ∙ sym (less_or_not (value_of x) (value_of y))

-- and equal is at most and at least.
equal_both : (x y : ℕ) → eqb x y ≡ (leb x y && leb y x)
equal_both x y = by (leb x y) (leb y x) refl refl
  where
    by : (t u : Bool) → leb x y ≡ t → leb y x ≡ u → eqb x y ≡ (t && u)
    by true true d e = let a = leb-true x y d in let b = leb-true y x e in eq-eqb x y (omega arith)
    by true false d e = let b = leb-false y x e in ne_eqb x y (λ q. omega arith)
    by false u d e = let a = leb-false x y d in ne_eqb x y (λ q. omega arith)

pub codes_equal : (x y : ℕ) → eqb x y ≡ (le_z (value_of x) (value_of y) && le_z (value_of y) (value_of x))
codes_equal x y = equal_both x y ∙ rw (value_order x y, value_order y x)

-- What is none of the other five is taken as `=`.
pub else_equals : (r : ℕ) → (r ≡ 1 → ⊥) → (r ≡ 2 → ⊥) → (r ≡ 4 → ⊥) → (r ≡ 5 → ⊥) → (r ≡ 6 → ⊥) → relation_of r ≡ equals
else_equals zero e₁ e₂ e₄ e₅ e₆ = refl
else_equals (suc zero) e₁ e₂ e₄ e₅ e₆ = absurd (e₁ refl)
else_equals (suc (suc zero)) e₁ e₂ e₄ e₅ e₆ = absurd (e₂ refl)
else_equals (suc (suc (suc zero))) e₁ e₂ e₄ e₅ e₆ = refl
else_equals (suc (suc (suc (suc zero)))) e₁ e₂ e₄ e₅ e₆ = absurd (e₄ refl)
else_equals (suc (suc (suc (suc (suc zero))))) e₁ e₂ e₄ e₅ e₆ = absurd (e₅ refl)
else_equals (suc (suc (suc (suc (suc (suc zero)))))) e₁ e₂ e₄ e₅ e₆ = absurd (e₆ refl)
else_equals (suc (suc (suc (suc (suc (suc (suc r))))))) e₁ e₂ e₄ e₅ e₆ = refl
