-- The branches that the map has of an action are those that it offers, so that the loops over them say what bars what.
-- Assumes nothing.
use Prim.Native.Nat.{ℕ, zero, suc, ◌+◌, ◌-◌, ◌≤◌, ◌<◌}
use mathlib.Core.Path.{◌≡◌, refl, ◌∙◌}
use mathlib.Core.List.{List, [], ◌∷◌}
use mathlib.Core.Bool.{Bool, true, false, not, ◌&&◌, ◌||◌}
use mathlib.Core.Option.{some}
use native.Mathlib.Omega.{arith}
use lib.ListN.{length, get_or, drop, get_elem?}
use Rattle.semantics.specs.Words.{all, any}
use Rattle.semantics.specs.Record.{claim_in}
use Rattle.semantics.specs.Claim.{Offer, smaller_amounts, covers, covered, bars}
use Rattle.base_numbers.specs.Map as Map
use Rattle.file_map.specs.Map.{claim_at, OfferAt, OffersAt}
use Rattle.file_bars.specs.declared.Named.{Named}
use Rattle.file_bars.specs.Barring.{There, AllThere, Barring}
use Rattle.file_bars.specs.Bits.{names_nothing, within, named_at, claim_of, covers_at, numbers, numbers_to, branches_of}
use Rattle.file_bars.proofs.Naming.{strict_named, same_named}

-- THE TEST of two branches: it is made by bits, unless all bits are the same.
same_bits : (n p w s : Bool) → p && w ≡ true → s ≡ (not n && (p && not w)) || ((p && w) && s)
same_bits true true true s e = refl
same_bits false true true s e = refl
same_bits n true false s e = let z : ◌≡◌ {A = ℕ} 0 1 = cc in absurd (omega arith)
same_bits n false w s e = let z : ◌≡◌ {A = ℕ} 0 1 = cc in absurd (omega arith)

other_bits : (n p w s : Bool) → p && w ≡ false → not n && p ≡ (not n && (p && not w)) || ((p && w) && s)
other_bits n true true s e = let z : ◌≡◌ {A = ℕ} 0 1 = cc in absurd (omega arith)
other_bits true true false s e = refl
other_bits false true false s e = refl
other_bits true false w s e = refl
other_bits false false w s e = refl

-- So of branches m and n, from what the code has of them.
module _ (bs row : List ℕ) (m n : ℕ) (x y : Named) (p w : Bool) (x_is : x ≡ named_at row n) (y_is : y ≡ named_at row m)
    (p_is : p ≡ within x y) (w_is : w ≡ within y x) where
  pub by_amounts : p && w ≡ true → (q b : ℕ) → q ≡ claim_at row n → b ≡ claim_at row m → (r : Bool)
      → r ≡ smaller_amounts (claim_in (drop q bs)) (claim_in (drop b bs)) → r ≡ covers_at bs row m n
  by_amounts e q b i j r f = same_bits (names_nothing x) p w r e ∙ rw (f, i, j, p_is, w_is, x_is, y_is)

  pub by_bits : p && w ≡ false → (o : Bool) → o ≡ names_nothing x → not o && p ≡ covers_at bs row m n
  by_bits e o f = other_bits o p w (smaller_amounts (claim_of bs row n) (claim_of bs row m)) e ∙ rw (f, p_is, w_is, x_is, y_is)

-- THE LOOPS over the branches from n to before e: the end, and a turn in which a test of the first says r, which is t.
module _ (n e : ℕ) where
  next : n < e → numbers_to n e ≡ n ∷ numbers_to (n + 1) e
  unfolding numbers
  next h = let k : e - n ≡ suc (e - (n + 1)) = omega arith in rw k

  pub none_left : e ≤ n → numbers_to n e ≡ []
  unfolding numbers
  none_left h = let k : e - n ≡ 0 = omega arith in rw k

  module _ (p : ℕ → Bool) (r t : Bool) (h : n < e) (f : r ≡ p n) (g : r ≡ t) where
    pub any_turn : {x : Bool} → any p (numbers_to n e) ≡ x → (t || any p (numbers_to (n + 1) e)) ≡ x
    any_turn i = rw (next h, ← f, g) at i

    pub all_turn : {x : Bool} → all p (numbers_to n e) ≡ x → (t && all p (numbers_to (n + 1) e)) ≡ x
    all_turn i = rw (next h, ← f, g) at i

-- THE ANSWER. The branches of the map are what is offered.
module _ (bs row : List ℕ) where
  -- Those from number n on are these offers.
  abbrev Offered : ℕ → List Offer → Type 0
  Offered n os = (k : ℕ) (o : Offer) → get_elem? os k ≡ some o → OfferAt bs row (n + k) o

  first_is : (n : ℕ) (o : Offer) (os : List Offer) → Offered n (o ∷ os) → OfferAt bs row n o
  first_is n o os h = let f : n + 0 ≡ n = omega arith in rw f at (h 0 o refl)

  others_are : (n : ℕ) (o : Offer) (os : List Offer) → Offered n (o ∷ os) → Offered (n + 1) os
  others_are n o os h k p e = let g : n + 1 + k ≡ n + suc k = omega arith in rw g (h (suc k) p e)

  covers_is : (m n : ℕ) (y x : Offer) → OfferAt bs row m y → OfferAt bs row n x
      → covers_at bs row m n ≡ covers y.claim x.claim
  covers_is m n y x g h =
      rw (
        g.resources_are,
        g.bins_are,
        g.syncs_are,
        g.claim_is,
        h.resources_are,
        h.bins_are,
        h.syncs_are,
        h.claim_is,
        strict_named x.claim y.claim,
        same_named x.claim y.claim,
      )

  covered_is : (m : ℕ) (os : List Offer) → Offered m os → (n : ℕ) (x : Offer) → OfferAt bs row n x
      → any (λ k. covers_at bs row k n) (numbers m (length os)) ≡ covered os x
  unfolding numbers
  covered_is m [] g n x h = refl
  covered_is m (o ∷ os) g n x h =
      rw (covers_is m n o x (first_is m o os g) h, covered_is (m + 1) os (others_are m o os g) n x h)

  bars_is : (m : ℕ) (os : List Offer) → Offered m os → (n : ℕ) (xs : List Offer) → Offered n xs
      → all (λ j. any (λ k. covers_at bs row k j) (numbers m (length os))) (numbers n (length xs)) ≡ bars os xs
  unfolding numbers
  bars_is m os g n [] h = refl
  bars_is m os g n (x ∷ xs) h =
      rw (covered_is m os g n x (first_is n x xs h), bars_is m os g (n + 1) xs (others_are n x xs h))

  many_are : (a : ℕ) (os : List Offer) → OffersAt bs row a os
      → branches_of row a ≡ numbers (get_or row (Map.FROM + a) 0) (length os)
  many_are a os h =
      let k : get_or row (Map.FROM + (a + 1)) 0 - get_or row (Map.FROM + a) 0 ≡ length os = omega (arith, h.to_is) in
      rw k

  pub barred : {b q : ℕ} (v : Barring bs row b q)
      → all (λ j. any (λ k. covers_at bs row k j) (branches_of row b)) (branches_of row q) ≡ bars v.by v.of
  barred {b} {q} v =
      rw (many_are b v.by v.by_at, many_are q v.of v.of_at)
      (bars_is (get_or row (Map.FROM + b) 0) v.by v.by_at.each (get_or row (Map.FROM + q) 0) v.of v.of_at.each)

  -- They are there, each.
  one_there : (n : ℕ) (os : List Offer) → Offered n os → (k : ℕ) → k < length os → There bs row (n + k)
  one_there n [] h k l = absurd (omega arith)
  one_there n (o ∷ os) h zero l = let a = h 0 o refl in (a.few, a.inside)
  one_there n (o ∷ os) h (suc k) l =
      let f : n + 1 + k ≡ n + suc k = omega arith in
      rw f at (one_there (n + 1) os (others_are n o os h) k (omega arith))

  pub all_there : (a : ℕ) (os : List Offer) → OffersAt bs row a os
      → AllThere bs row (get_or row (Map.FROM + a) 0) (get_or row (Map.FROM + (a + 1)) 0)
  all_there a os h n l g =
      let from = get_or row (Map.FROM + a) 0 in
      let f : from + (n - from) ≡ n = omega arith in
      rw f at (one_there from os h.each (n - from) (omega (arith, h.to_is)))
