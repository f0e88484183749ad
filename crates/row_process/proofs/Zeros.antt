-- Whether all of a row are 0, one number at a time; and what that says of a list in the row. Assumes nothing.
use Prim.Native.Nat.{ℕ, zero, suc, ◌+◌, ◌-◌, ◌<◌}
use native.Mathlib.Numerals.{add-one}
use native.Mathlib.Omega.{arith}
use mathlib.Core.Path.{◌≡◌, refl, ap}
use mathlib.Core.List.{List, [], ◌∷◌, ◌++◌}
use mathlib.Core.Bool.{Bool, true, false, ◌&&◌}
use borrow.Author.Tests.{ne_eqb}
use lib.Dec.{eqb}
use lib.ListN.{length, get_or, drop, replicate}
use lib.Seq.{drop-cons, drop-length}
use Rattle.semantics.specs.Words.{all, is_empty}
use Rattle.base_ordered.specs.Lines.{pad}

abbrev pub zeros : List ℕ → Bool
zeros xs = all (λ n. eqb n 0) xs

pub one_more : (b t : Bool) (row : List ℕ) (i : ℕ) → i < length row → b && zeros (drop i row) ≡ t
    → (b && eqb (get_or row i 0) 0) && zeros (drop (i + 1) row) ≡ t
one_more true t row i h e = rw add-one (rw (drop-cons row i 0 h) at e)
one_more false t row i h e = e

pub no_more : (b t : Bool) (row : List ℕ) (i : ℕ) → i ≡ length row → b && zeros (drop i row) ≡ t → b ≡ t
no_more true t row i h e = rw (h, drop-length row) at e
no_more false t row i h e = e

none : (k : ℕ) → zeros (replicate k 0) ≡ true
none zero = refl
none (suc k) = none k

pub zeros-pad : (n : ℕ) (xs : List ℕ) → zeros (pad n xs) ≡ zeros xs
zeros-pad n xs = go xs (n - length xs)
  where
    go : (xs : List ℕ) (k : ℕ) → zeros (xs ++ replicate k 0) ≡ zeros xs
    go [] k = none k
    go (x ∷ xs) k = ap (λ b. eqb x 0 && b) (go xs k)

pub none_there : {A : Type 0} (xs : List A) → eqb (length xs) 0 ≡ is_empty xs
none_there [] = refl
none_there (x ∷ xs) = ne_eqb (suc (length xs)) 0 (omega arith)
