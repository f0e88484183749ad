-- Laws on tests: of codes, of order, of lists that are empty. Assumes nothing.
use Prim.Native.Nat.{ℕ, suc}
use native.Mathlib.Omega.{arith}
use mathlib.Core.Path.{◌≡◌, refl, sym, ◌∙◌, ap}
use mathlib.Core.List.{List, [], ◌∷◌}
use mathlib.Core.Bool.{Bool, true, false, not, ◌&&◌}
use lib.Dec.{eqb, leb, ltb}
use borrow.Author.Tests.{ltb-true, ltb-false, le-leb, lt-leb, ne_eqb}
use lib.ListN.{length}
use lib.IntN.{ℤ}
use lib.Signed.{le_z}
use Rattle.semantics.specs.Words.{all, is_empty}
use Rattle.semantics.specs.Sound.{same}
use Rattle.promises.specs.Fit.{I32}
use Rattle.base_i32.specs.Code.{code}
use Rattle.base_i32.specs.Laws.{code_order}
use Rattle.row_sound_lists.proofs.Indices.{both_eqb}

-- With what holds anyway.
pub and_unit : (b : Bool) → (b && true) ≡ b
and_unit true = refl
and_unit false = refl

pub and_assoc : (a b c : Bool) → ((a && b) && c) ≡ (a && (b && c))
and_assoc true b c = refl
and_assoc false b c = refl

-- A test of all, of two tests.
pub all-and : {A : Type 0} (f g : A → Bool) (xs : List A) → all (λ x. f x && g x) xs ≡ (all f xs && all g xs)
all-and f g [] = refl
all-and f g (x ∷ xs) = ap (λ b. (f x && g x) && b) (all-and f g xs) ∙ four (f x) (g x) (all f xs) (all g xs)
  where
    four : (a b c d : Bool) → ((a && b) && (c && d)) ≡ ((a && c) && (b && d))
    four true true c d = refl
    four true false true d = refl
    four true false false d = refl
    four false b c d = refl

pub not-ltb : (a b : ℕ) → not (ltb b a) ≡ leb a b
not-ltb a b = by (ltb b a) refl
  where
    by : (t : Bool) → ltb b a ≡ t → not t ≡ leb a b
    by true e = sym (lt-leb a b (ltb-true b a e))
    by false e = sym (le-leb a b (ltb-false b a e))

pub empty_length : {A : Type 0} (xs : List A) → eqb (length xs) 0 ≡ is_empty xs
empty_length [] = refl
empty_length (x ∷ xs) = ne_eqb (suc (length xs)) 0 (λ e. omega arith)

-- CODES.
pub same_code : (x y : ℤ) → I32 x → I32 y → eqb (code x) (code y) ≡ same x y
same_code x y h k =
    sym (both_eqb (code x) (code y))
    ∙ ap (λ b. b && leb (code y) (code x)) (code_order x y h k)
    ∙ ap (λ b. le_z x y && b) (code_order y x k h)
