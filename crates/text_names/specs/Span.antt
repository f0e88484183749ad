-- The n values of a function from i on, a span, and its laws: one more at its end, what it has at its front, and a search and a
-- count that go along it; and laws of a search and a count by one field.
-- Assumes nothing.
use Prim.Native.Nat.{ℕ, zero, suc, ◌+◌, ◌-◌, ◌≤◌, ◌<◌}
use Rattle.std.proofs.Common.{zero-add, ◌∙◌}
use Rattle.std.proofs.Math.Numerals.{add-one}
use native.Mathlib.Omega.{arith}
use Rattle.std.specs.Prelude.{◌≡◌, List, [], ◌∷◌, ◌++◌, map, Bool, true, false, length, if◌then◌else◌}
use Rattle.std.proofs.Math.Path.{refl, ap}
use Rattle.semantics.specs.Words.{keep, first_at}

-- The n of f from i on.
unfoldable pub span : {A : Type 0} → (ℕ → A) → ℕ → ℕ → List A
span f i zero = []
span f i (suc n) = f i ∷ span f (suc i) n

module _ {A : Type 0} (f : ℕ → A) where
  pub span-length : (i n : ℕ) → length (span f i n) ≡ n
  unfolding span
  span-length i zero = refl
  span-length i (suc n) = ap suc (span-length (suc i) n)

  pub span_snoc : (i n : ℕ) → span f i (suc n) ≡ span f i n ++ (f (i + n) ∷ [])
  unfolding span
  span_snoc i zero = let e : i + 0 ≡ i = omega arith in rw e
  span_snoc i (suc n) =
      let e : suc i + n ≡ i + suc n = omega arith in
      ap (λ l. f i ∷ l) (span_snoc (suc i) n) ∙ rw e

  pub span_agree : (g : ℕ → A) (i n : ℕ) → ((k : ℕ) → i ≤ k → k < i + n → f k ≡ g k) → span f i n ≡ span g i n
  unfolding span
  span_agree g i zero h = refl
  span_agree g i (suc n) h =
      let e : f i ≡ g i = h i (omega arith) (omega arith) in
      let r : span f (suc i) n ≡ span g (suc i) n = span_agree g (suc i) n (λ k a b. h k (omega arith) (omega arith)) in
      cc

  pub span-map : {B : Type 0} (g : A → B) (i n : ℕ) → map g (span f i n) ≡ span (λ k. g (f k)) i n
  unfolding span
  span-map g i zero = refl
  span-map g i (suc n) = ap (λ l. g (f i) ∷ l) (span-map g (suc i) n)

  -- Of n, what is left from i on.
  pub span-cons : (i n : ℕ) → i < n → span f i (n - i) ≡ f i ∷ span f (i + 1) (n - (i + 1))
  unfolding span
  span-cons i n h = let e : n - i ≡ suc (n - (i + 1)) = omega arith in rw (e, add-one i)

  pub span_all : (n : ℕ) → span f 0 (n - 0) ≡ span f 0 n
  span_all n = let e : n - 0 ≡ n = omega arith in rw e

  pub span_none : (i n : ℕ) → n ≤ i → span f i (n - i) ≡ []
  unfolding span
  span_none i n h = let e : n - i ≡ 0 = omega arith in rw e

  -- A search, and a count.
  module _ (q : A → Bool) (n : ℕ) where
    pub search_begin : 0 + first_at q (span f 0 (n - 0)) ≡ first_at q (span f 0 n)
    search_begin = zero-add _ ∙ ap (first_at q) (span_all n)

    pub search_on : (m i : ℕ) → i < n → q (f i) ≡ false → i + first_at q (span f i (n - i)) ≡ m
        → i + 1 + first_at q (span f (i + 1) (n - (i + 1))) ≡ m
    search_on m i h e p =
        let x : first_at q (span f i (n - i)) ≡ suc (first_at q (span f (i + 1) (n - (i + 1)))) = rw (span-cons i n h, e) in
        omega arith

    pub search_stop : (m i : ℕ) → i < n → q (f i) ≡ true → i + first_at q (span f i (n - i)) ≡ m → i ≡ m
    search_stop m i h e p = let x : first_at q (span f i (n - i)) ≡ 0 = rw (span-cons i n h, e) in omega arith

    pub search_through : (m i : ℕ) → i ≡ n → i + first_at q (span f i (n - i)) ≡ m → n ≡ m
    search_through m i h p = let x : first_at q (span f i (n - i)) ≡ 0 = rw (span_none i n (omega arith)) in omega arith

    pub count_begin : 0 + length (keep q (span f 0 (n - 0))) ≡ length (keep q (span f 0 n))
    count_begin = zero-add _ ∙ ap (λ s. length (keep q s)) (span_all n)

    pub count_one : (m i c : ℕ) → i < n → q (f i) ≡ true → c + length (keep q (span f i (n - i))) ≡ m
        → c + 1 + length (keep q (span f (i + 1) (n - (i + 1)))) ≡ m
    count_one m i c h e p =
        let x : length (keep q (span f i (n - i))) ≡ suc (length (keep q (span f (i + 1) (n - (i + 1))))) =
        rw (span-cons i n h, e) in
        omega arith

    pub count_none : (m i c : ℕ) → i < n → q (f i) ≡ false → c + length (keep q (span f i (n - i))) ≡ m
        → c + length (keep q (span f (i + 1) (n - (i + 1)))) ≡ m
    count_none m i c h e p =
        let x : length (keep q (span f i (n - i))) ≡ length (keep q (span f (i + 1) (n - (i + 1)))) =
        rw (span-cons i n h, e) in
        omega arith

    pub count_through : (m i c : ℕ) → i ≡ n → c + length (keep q (span f i (n - i))) ≡ m → c ≡ m
    count_through m i c h p = let x : length (keep q (span f i (n - i))) ≡ 0 = rw (span_none i n (omega arith)) in omega arith

-- BY ONE FIELD, g.
module _ {A B : Type 0} (g : A → B) (q : B → Bool) where
  pub keep_by : (xs : List A) → length (keep q (map g xs)) ≡ length (keep (λ x. q (g x)) xs)
  keep_by [] = refl
  keep_by (x ∷ xs) = by (q (g x)) (keep_by xs)
    where
      by : (t : Bool) → length (keep q (map g xs)) ≡ length (keep (λ y. q (g y)) xs)
          → length (if t then g x ∷ keep q (map g xs) else keep q (map g xs))
          ≡ length (if t then x ∷ keep (λ y. q (g y)) xs else keep (λ y. q (g y)) xs)
      by true e = ap suc e
      by false e = e

  pub first_by : (xs : List A) → first_at q (map g xs) ≡ first_at (λ x. q (g x)) xs
  first_by [] = refl
  first_by (x ∷ xs) = ap (λ m. if q (g x) then 0 else suc m) (first_by xs)
