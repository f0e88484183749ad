-- Laws of a part of the text, byte by byte: when two are the same, and their keys.
-- Assumes nothing.
use Rattle.std.specs.Prelude.{ℕ, suc, ◌+◌, ◌-◌, ◌*◌, ◌%◌, ◌≤◌, ◌<◌, ◌≡◌, refl, List, [], ◌∷◌, Bool, true, false, ◌&&◌, eqb, length, get_or, take, drop}
use Rattle.std.proofs.Common.{arith, ◌∙◌, eqb-true, eq-eqb, ne_eqb, length-drop, drop-cons, length-take-le}
use Rattle.std.proofs.Math.Path.{sym, ap}
use Rattle.text_semantics.specs.Lexing.{same_bytes}
use Rattle.text_names.specs.Table.{key_of, key_base, keys}

-- THE SAME BYTES.
pub same_of : (xs ys : List ℕ) → same_bytes xs ys ≡ true → xs ≡ ys
same_of [] [] e = refl
same_of [] (y ∷ ys) e = let z : ◌≡◌ {A = ℕ} 0 1 = cc in absurd (omega arith)
same_of (x ∷ xs) [] e = let z : ◌≡◌ {A = ℕ} 0 1 = cc in absurd (omega arith)
same_of (x ∷ xs) (y ∷ ys) e = by (eqb x y) refl (same_of xs ys) e
  where
    by : (t : Bool) → eqb x y ≡ t → (same_bytes xs ys ≡ true → xs ≡ ys) → t && same_bytes xs ys ≡ true → x ∷ xs ≡ y ∷ ys
    by true f r g = let a : x ≡ y = eqb-true x y f in let b : xs ≡ ys = r g in cc
    by false f r g = let z : ◌≡◌ {A = ℕ} 0 1 = cc in absurd (omega arith)

pub same_self : (xs : List ℕ) → same_bytes xs xs ≡ true
same_self [] = refl
same_self (x ∷ xs) = rw (eq-eqb x x refl, same_self xs)

-- Where a number of two lists differs, they do.
pub other_by : (f : List ℕ → ℕ) (xs ys : List ℕ) → (f xs ≡ f ys → ⊥) → same_bytes xs ys ≡ false
other_by f xs ys h = by (same_bytes xs ys) refl
  where
    by : (t : Bool) → same_bytes xs ys ≡ t → t ≡ false
    by true e = absurd (h (ap f (same_of xs ys e)))
    by false e = refl

pub same_sym : (xs ys : List ℕ) → same_bytes xs ys ≡ same_bytes ys xs
same_sym xs ys = by (same_bytes xs ys) (same_bytes ys xs) refl refl
  where
    by : (t u : Bool) → same_bytes xs ys ≡ t → same_bytes ys xs ≡ u → t ≡ u
    by true true e f = refl
    by false false e f = refl
    by true false e f =
        let a : xs ≡ ys = same_of xs ys e in
        let b : same_bytes ys xs ≡ true = ap (λ zs. same_bytes ys zs) a ∙ same_self ys in
        cc
    by false true e f =
        let a : ys ≡ xs = same_of ys xs f in
        let b : same_bytes xs ys ≡ true = ap (λ zs. same_bytes xs zs) a ∙ same_self xs in
        cc

-- THE l BYTES AT p, from the i-th on.
module _ (bs : List ℕ) (p l : ℕ) (h : p + l ≤ length bs) where
  pub part_length : length (take l (drop p bs)) ≡ l
  part_length = length-take-le l (drop p bs) (omega (arith, length-drop p bs))

  pub part_cons : (i : ℕ) → i < l
      → take (l - i) (drop (p + i) bs) ≡ get_or bs (p + i) 0 ∷ take (l - (i + 1)) (drop (p + (i + 1)) bs)
  part_cons i k =
      let e : l - i ≡ suc (l - (i + 1)) = omega arith in
      let s : suc (p + i) ≡ p + (i + 1) = omega arith in
      rw (e, drop-cons bs (p + i) 0 (omega arith), s)

  pub part_none : (i : ℕ) → l ≤ i → take (l - i) (drop (p + i) bs) ≡ []
  part_none i k = let e : l - i ≡ 0 = omega arith in rw e

  pub part_all : take (l - 0) (drop (p + 0) bs) ≡ take l (drop p bs)
  part_all = let e : l - 0 ≡ l = omega arith in let s : p + 0 ≡ p = omega arith in rw (e, s)

  -- A key goes on with the next byte.
  pub key_on : (i k : ℕ) → i < l
      → key_of ((k * key_base + get_or bs (p + i) 0) % keys) (take (l - (i + 1)) (drop (p + (i + 1)) bs))
      ≡ key_of k (take (l - i) (drop (p + i) bs))
  unfolding key_of
  key_on i k a = sym (ap (key_of k) (part_cons i a))

  pub key_end : (i k : ℕ) → l ≤ i → key_of k (take (l - i) (drop (p + i) bs)) ≡ k
  unfolding key_of
  key_end i k a = ap (key_of k) (part_none i a)

-- Two such parts of one length, side by side.
module _ (bs : List ℕ) (p q l : ℕ) (h : p + l ≤ length bs) (g : q + l ≤ length bs) where
  abbrev pub same_from : ℕ → Bool
  same_from i = same_bytes (take (l - i) (drop (p + i) bs)) (take (l - i) (drop (q + i) bs))

  by_first : (i : ℕ) → i < l → same_from i ≡ eqb (get_or bs (p + i) 0) (get_or bs (q + i) 0) && same_from (i + 1)
  by_first i k = rw (part_cons bs p l h i k, part_cons bs q l g i k)

  pub same_on : (i : ℕ) → i < l → get_or bs (p + i) 0 ≡ get_or bs (q + i) 0 → same_from (i + 1) ≡ same_from i
  same_on i k e = sym (by_first i k ∙ rw (eq-eqb (get_or bs (p + i) 0) (get_or bs (q + i) 0) e))

  pub same_stop : (i : ℕ) → i < l → (get_or bs (p + i) 0 ≡ get_or bs (q + i) 0 → ⊥) → same_from i ≡ false
  same_stop i k e = by_first i k ∙ rw (ne_eqb (get_or bs (p + i) 0) (get_or bs (q + i) 0) e)

  pub same_end : (i : ℕ) → l ≤ i → same_from i ≡ true
  same_end i k = rw (part_none bs p l h i k, part_none bs q l g i k)

  pub same_all : same_from 0 ≡ same_bytes (take l (drop p bs)) (take l (drop q bs))
  same_all = rw (part_all bs p l h, part_all bs q l g)
