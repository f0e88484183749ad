-- A test of each index of a list is a test of the list, a sum over the indices is the sum over the list, and a list is in order
-- where each stands right before the next. Assumes nothing.
use Prim.Native.Nat.{ℕ, zero, suc, ◌+◌, ◌-◌, ◌≤◌, ◌<◌}
use native.Mathlib.Omega.{arith}
use mathlib.Core.Path.{◌≡◌, refl, sym, ◌∙◌, ap}
use mathlib.Core.List.{List, [], ◌∷◌}
use mathlib.Core.Bool.{Bool, true, false, ◌&&◌}
use lib.Dec.{eqb, leb}
use lib.ListN.{length, get_or}
use Rattle.semantics.specs.Words.{all, ordered, up_to}
use Rattle.promises.specs.Laws.{AllOf, all_map, Ordered, over}
use Rattle.promises.specs.Says.{Says, says_is, says_for, ◌and◌, says_le, says_eq, says_all, says_ordered, says_up_to}
use Rattle.row_sound_lists.specs.Tests.{each, tally}

-- Two tests that decide the same agree.
pub same_says : {a b : Bool} {P : Type 0} → Says a P → Says b P → a ≡ b
same_says {a} {b} p q = go a b p q
  where
    go : {P : Type 0} (a b : Bool) → Says a P → Says b P → a ≡ b
    go true true p q = refl
    go true false p q = sym (q.back (p.yes refl))
    go false true p q = p.back (q.yes refl)
    go false false p q = refl

-- Both ways below or equal is equal.
pub both_eqb : (a b : ℕ) → (leb a b && leb b a) ≡ eqb a b
both_eqb a b =
    same_says (says_le {a = a} {b = b} and says_le {a = b} {b = a})
    (says_for (says_eq {a = a} {b = b}) (λ e. (omega (arith, e), omega (arith, e))) (λ h. omega (arith, h.0, h.1)))

-- INDICES.
pub each_same : (f g : ℕ → Bool) (n : ℕ) → ((k : ℕ) → k < n → f k ≡ g k) → each n f ≡ each n g
unfolding each
each_same f g zero h = refl
each_same f g (suc n) h =
    ap (λ b. b && all f (up_to n)) (h n (omega arith)) ∙ ap (λ b. g n && b) (each_same f g n (λ k l. h k (omega arith)))

pub tally_same : (f g : ℕ → ℕ) (n : ℕ) → ((k : ℕ) → k < n → f k ≡ g k) → tally n f ≡ tally n g
unfolding tally
tally_same f g zero h = refl
tally_same f g (suc n) h =
    let a = h n (omega arith) in let b = tally_same f g n (λ k l. h k (omega arith)) in omega arith

module _ {A : Type 0} (d : A) where
  pub all_index : (P : A → Type 0) (xs : List A) → AllOf P xs → (k : ℕ) → k < length xs → P (get_or xs k d)
  all_index P [] h k l = absurd (omega arith)
  all_index P (x ∷ xs) h zero l = h.0
  all_index P (x ∷ xs) h (suc k) l = all_index P xs h.1 k (omega arith)

  index_all : (P : A → Type 0) (xs : List A) → ((k : ℕ) → k < length xs → P (get_or xs k d)) → AllOf P xs
  index_all P [] h = tt
  index_all P (x ∷ xs) h = (h 0 (omega arith), index_all P xs (λ k l. h (suc k) (omega arith)))

  says_each : {f : ℕ → Bool} {P : ℕ → Type 0} → ((k : ℕ) → Says (f k) (P k)) → (n : ℕ)
      → Says (each n f) ((k : ℕ) → k < n → P k)
  unfolding each
  says_each h n = says_up_to h n

  each_list : (f : A → Bool) (xs : List A) → each (length xs) (λ k. f (get_or xs k d)) ≡ all f xs
  each_list f xs =
      same_says (says_each (λ k. says_is) (length xs))
      (says_for (says_all (λ a. says_is) xs) (all_index (λ x. f x ≡ true) xs) (index_all (λ x. f x ≡ true) xs))

  pub each_all : (f : A → Bool) (t : ℕ → Bool) (xs : List A) (n : ℕ) → n ≡ length xs
      → ((k : ℕ) → k < length xs → t k ≡ f (get_or xs k d)) → each n t ≡ all f xs
  each_all f t xs n e h = ap (λ m. each m t) e ∙ each_same t _ (length xs) h ∙ each_list f xs

  shift : (h : ℕ → ℕ) (n : ℕ) → tally (suc n) h ≡ h 0 + tally n (λ k. h (suc k))
  unfolding tally
  shift h zero = refl
  shift h (suc n) = let a = shift h n in omega arith

  tally_list : (f : A → ℕ) (xs : List A) → tally (length xs) (λ k. f (get_or xs k d)) ≡ over f xs
  unfolding tally
  tally_list f [] = refl
  tally_list f (x ∷ xs) =
      shift (λ k. f (get_or (x ∷ xs) k d)) (length xs) ∙ ap (λ n. f x + n) (tally_list f xs)

  pub tally-over : (f : A → ℕ) (t : ℕ → ℕ) (xs : List A) (n : ℕ) → n ≡ length xs
      → ((k : ℕ) → k < length xs → t k ≡ f (get_or xs k d)) → tally n t ≡ over f xs
  tally-over f t xs n e h = ap (λ m. tally m t) e ∙ tally_same t _ (length xs) h ∙ tally_list f xs

  -- ORDER by a key.
  module _ (key : A → ℕ) where
    abbrev Before : A → A → Type 0
    Before a b = key a ≤ key b

    abbrev Adjacent : List A → Type 0
    Adjacent xs = (k : ℕ) → k < length xs - 1 → key (get_or xs k d) ≤ key (get_or xs (suc k) d)

    to_adjacent : (xs : List A) → Ordered Before xs → Adjacent xs
    to_adjacent [] h k l = absurd (omega arith)
    to_adjacent (x ∷ []) h k l = absurd (omega arith)
    to_adjacent (x ∷ y ∷ ys) h zero l = h.0.0
    to_adjacent (x ∷ y ∷ ys) h (suc k) l = to_adjacent (y ∷ ys) h.1 k (omega arith)

    from_adjacent : (xs : List A) → Adjacent xs → Ordered Before xs
    from_adjacent [] h = tt
    from_adjacent (x ∷ []) h = (tt, tt)
    from_adjacent (x ∷ y ∷ ys) h =
        let i = from_adjacent (y ∷ ys) (λ k l. h (suc k) (omega arith)) in
        let a = h 0 (omega arith) in
        ((a, all_map (Before y) (Before x) (λ z b. omega arith) ys i.0), i)

    pub each-ordered : (t : ℕ → Bool) (xs : List A) (n : ℕ) → n ≡ length xs
        → ((k : ℕ) → suc k < length xs → t k ≡ leb (key (get_or xs k d)) (key (get_or xs (suc k) d)))
        → each (n - 1) t ≡ ordered (λ a b. leb (key a) (key b)) xs
    each-ordered t xs n e h =
        ap (λ m. each (m - 1) t) e
        ∙ each_same t _ (length xs - 1) (λ k l. h k (omega arith))
        ∙ same_says (says_each (λ k. says_le) (length xs - 1))
        (says_for (says_ordered (λ a b. says_le) xs) (to_adjacent xs) (from_adjacent xs))

-- Tests that agree on a list.
module _ {A : Type 0} (G : A → Type 0) where
  pub all_same : (f g : A → Bool) → ((a : A) → G a → f a ≡ g a) → (xs : List A) → AllOf G xs → all f xs ≡ all g xs
  all_same f g h [] a = refl
  all_same f g h (x ∷ xs) a =
      ap (λ b. b && all f xs) (h x a.0) ∙ ap (λ b. g x && b) (all_same f g h xs a.1)

  pub ordered_same : (f g : A → A → Bool) → ((a b : A) → G a → G b → f a b ≡ g a b) → (xs : List A) → AllOf G xs
      → ordered f xs ≡ ordered g xs
  ordered_same f g h [] a = refl
  ordered_same f g h (x ∷ xs) a =
      ap (λ b. b && ordered f xs) (all_same (f x) (g x) (λ y i. h x y a.0 i) xs a.1)
      ∙ ap (λ b. all (g x) xs && b) (ordered_same f g h xs a.1)

pub all_true : {A : Type 0} (f : A → Bool) (xs : List A) → AllOf (λ x. f x ≡ true) xs → all f xs ≡ true
all_true f [] h = refl
all_true f (x ∷ xs) h = ap (λ b. b && all f xs) h.0 ∙ all_true f xs h.1
