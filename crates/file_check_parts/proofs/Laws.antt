-- One turn of a loop over the parts of a slice, and the rest of a slice. Assumes nothing.
use mathlib.Core.Path.{◌≡◌, refl}
use mathlib.Core.List.{List, [], ◌∷◌}
use mathlib.Core.Bool.{Bool, true, false, ◌&&◌, ◌||◌}
use Prim.Native.Nat.{ℕ, zero, suc, ◌*◌, ◌-◌, ◌≤◌, ◌<◌}
use native.Mathlib.Numerals.{sub-one}
use native.Mathlib.Omega.{arith}
use lib.Dec.{ltb}
use borrow.Author.Tests.{le-ltb}
use lib.ListN.{length, take, drop, get_or, length-drop, get_or-eq_default}
use lib.Seq.{take_all}
use Rattle.semantics.specs.Kinds as K
use Rattle.semantics.specs.Bytes.{parts}

pub rest_of : (k : ℕ) (l : List ℕ) → take (length l - k) (drop k l) ≡ drop k l
rest_of k l = take_all (length l - k) (drop k l) (omega (arith, length-drop k l))

pub parts-cons : (k n : ℕ) (bs : List ℕ) → 0 < n → parts k n bs ≡ take k bs ∷ parts k (n - 1) (drop k bs)
unfolding parts
parts-cons k zero bs h = absurd (omega arith)
parts-cons k (suc n) bs h = rw (sub-one (suc n))

pub parts_none : (k n : ℕ) (bs : List ℕ) → n ≡ 0 → parts k n bs ≡ []
unfolding parts
parts_none k n bs h = rw h

-- Nothing more.
pub and-true : (t u : Bool) → u ≡ true → (t && u) ≡ t
and-true true u e = e
and-true false u e = refl

pub or-false : (t u : Bool) → u ≡ false → (t || u) ≡ t
or-false true u e = refl
or-false false u e = e

pub fits_less : (k n l : ℕ) → 0 < n → k * n ≤ l → k * (n - 1) ≤ l - k
fits_less k (suc n) l h e = rw (sub-one (suc n)) (omega arith)
fits_less k zero l h e = omega arith

-- One turn: the slice moves on by a part.
module _ (k n : ℕ) (bs : List ℕ) (h : 0 < n) where
  pub fits_turn : k * n ≤ length bs → k * (n - 1) ≤ length (take (length bs - k) (drop k bs))
  fits_turn e = rw (rest_of k bs, length-drop k bs) (fits_less k n (length bs) h e)

-- No group stands past the last.
pub past_counts : (n : List ℕ) (g i : ℕ) → length n ≡ K.groups → K.groups ≤ g → ltb i (get_or n g 0) ≡ false
past_counts n g i e h = let z : get_or n g 0 ≡ 0 = get_or-eq_default n 0 (omega arith) in rw z (le-ltb i 0 (omega arith))
