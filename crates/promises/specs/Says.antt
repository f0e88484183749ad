-- A test that computes, and the statement that it decides.
-- Assumes nothing.
use Rattle.std.specs.Prelude.{ℕ, zero, suc, ◌≤◌, ◌<◌, ◌≡◌, refl, List, [], ◌∷◌, Bool, true, false, not, ◌&&◌, ◌||◌, eqb, leb, ltb, ℤ, pos, negsuc}
use Rattle.std.proofs.Common.{arith, sym, ap, ltb-true, ltb-false, leb-true, eqb-true, lt-ltb, le-ltb, le-leb, eq-eqb}
use Rattle.std.proofs.lemmas.Bool.{eqb-false}
use Rattle.std.specs.Int.Signed.{le_z, lt_z}
use Rattle.semantics.specs.Words.{all, is_empty, ordered, up_to, within}
use Rattle.semantics.specs.State.{Event, Waiter, sooner, higher}
use Rattle.semantics.specs.Sound.{same}
use Rattle.promises.specs.Laws.{no_way, and-true, true-and, not-true, not-false, AllOf, empty_is, Ordered}
use Rattle.promises.specs.Fit.{Within}
use Rattle.promises.specs.Sound.{Below, Late, Ranked}

pub record Says (b : Bool) (P : Type 0) : Type 0 where
  pub yes : b ≡ true → P
  pub back : P → b ≡ true

-- LOGIC.
pub says_is : {b : Bool} → Says b (b ≡ true)
says_is = record { yes = λ e. e; back = λ e. e }

pub says_true : Says true (Unit {0})
says_true = record { yes = λ e. tt; back = λ h. refl }

pub says_for : {b : Bool} {P Q : Type 0} → Says b P → (P → Q) → (Q → P) → Says b Q
says_for p f g = record { yes = λ e. f (p.yes e); back = λ h. p.back (g h) }

infixr 4 ◌and◌
pub ◌and◌ : {a b : Bool} {P Q : Type 0} → Says a P → Says b Q → Says (a && b) (P × Q)
◌and◌ {a} {b} p q =
    record {
      yes = λ e. (p.yes (and-true a b e).0, q.yes (and-true a b e).1);
      back = λ h. true-and a b (p.back h.0) (q.back h.1);
    }

-- NUMBERS.
pub says_le : {a b : ℕ} → Says (leb a b) (a ≤ b)
says_le {a} {b} = record { yes = leb-true a b; back = le-leb a b }

pub says_lt : {a b : ℕ} → Says (ltb a b) (a < b)
says_lt {a} {b} = record { yes = ltb-true a b; back = lt-ltb a b }

pub says_eq : {a b : ℕ} → Says (eqb a b) (a ≡ b)
says_eq {a} {b} = record { yes = eqb-true a b; back = eq-eqb a b }

pub says_within : {lo hi n : ℕ} → Says (within lo hi n) (Within lo hi n)
says_within = says_for (says_le and says_le) (λ h. record { low = h.0; high = h.1 }) (λ w. (w.low, w.high))

-- LISTS.
module _ {A : Type 0} where
  pub says_all : {f : A → Bool} {P : A → Type 0}
      → ((a : A) → Says (f a) (P a)) → (xs : List A) → Says (all f xs) (AllOf P xs)
  says_all h [] = says_true
  says_all h (x ∷ xs) = h x and says_all h xs

  pub says_ordered : {f : A → A → Bool} {R : A → A → Type 0}
      → ((a b : A) → Says (f a b) (R a b)) → (xs : List A) → Says (ordered f xs) (Ordered R xs)
  says_ordered h [] = says_true
  says_ordered h (x ∷ xs) = says_all (h x) xs and says_ordered h xs

  pub says_empty : (xs : List A) → Says (is_empty xs) (xs ≡ [])
  says_empty xs = record { yes = empty_is xs; back = λ e. ap is_empty e }

  -- One test of all, taken out of several.
  pub says_also : (f g : A → Bool) (xs : List A) {Q : Type 0}
      → Says (all g xs) Q → Says (all (λ x. f x && g x) xs) ((all f xs ≡ true) × Q)
  says_also f g xs q = says_for (apart xs) (λ h. (h.0, q.yes h.1)) (λ h. (h.0, q.back h.1))
    where
      apart : (xs : List A) → Says (all (λ x. f x && g x) xs) ((all f xs ≡ true) × (all g xs ≡ true))
      apart [] = record { yes = λ e. (refl, refl); back = λ h. refl }
      apart (x ∷ xs) =
          says_for ((says_is and says_is) and apart xs)
          (λ h. (true-and (f x) _ h.0.0 h.1.0, true-and (g x) _ h.0.1 h.1.1))
          (λ h. let a = and-true (f x) _ h.0 in let b = and-true (g x) _ h.1 in ((a.0, b.0), (a.1, b.1)))

pub says_up_to : {f : ℕ → Bool} {P : ℕ → Type 0}
    → ((k : ℕ) → Says (f k) (P k)) → (n : ℕ) → Says (all f (up_to n)) ((k : ℕ) → k < n → P k)
says_up_to h zero = record { yes = λ e k l. absurd (omega arith); back = λ p. refl }
says_up_to {P} h (suc n) =
    says_for (h n and says_up_to h n) (λ p k l. pick p k l (eqb k n) refl)
    (λ p. (p n (omega arith), λ k l. p k (omega arith)))
  where
    pick : P n × ((k : ℕ) → k < n → P k) → (k : ℕ) → k < suc n → (b : Bool) → eqb k n ≡ b → P k
    pick p k l true e = rw (eqb-true k n e) p.0
    pick p k l false e = let d = eqb-false k n e in p.1 k (omega arith)

-- WHOLE NUMBERS.
pub says_below : (x y : ℤ) → Says (le_z x y) (Below x y)
says_below (pos a) (pos b) =
    says_for (says_le {a = a}) (λ h. record { ups = omega arith; downs = omega arith }) (λ h. let u = h.ups in omega arith)
says_below (pos a) (negsuc b) = record { yes = λ e. no_way e; back = λ h. (let u = h.ups in absurd (omega arith)) }
says_below (negsuc a) (pos b) = record { yes = λ e. record { ups = omega arith; downs = omega arith }; back = λ h. refl }
says_below (negsuc a) (negsuc b) =
    says_for (says_le {a = b}) (λ h. record { ups = omega arith; downs = omega arith }) (λ h. let u = h.downs in omega arith)

pub says_same : (x y : ℤ) → Says (same x y) (x ≡ y)
says_same x y =
    says_for (says_below x y and says_below y x) (λ h. meet x y h.0 h.1) (λ e. (rw e (self y), rw e (self y)))
  where
    self : (z : ℤ) → Below z z
    self z = record { ups = omega arith; downs = omega arith }

    meet : (x y : ℤ) → Below x y → Below y x → x ≡ y
    meet (pos a) (pos b) h k = let u = h.ups in let v = k.ups in ap pos (omega arith)
    meet (pos a) (negsuc b) h k = let u = h.ups in absurd (omega arith)
    meet (negsuc a) (pos b) h k = let u = k.ups in absurd (omega arith)
    meet (negsuc a) (negsuc b) h k = let u = h.downs in let v = k.downs in ap negsuc (omega arith)

-- Not less is the converse.
says_not : (a b : ℕ) → Says (not (ltb a b)) (b ≤ a)
says_not a b =
    record { yes = λ e. ltb-false a b (not-true (ltb a b) e); back = λ h. not-false (ltb a b) (le-ltb a b h) }

says_behind : (x y : ℤ) → Says (not (lt_z x y)) (Below y x)
says_behind (pos a) (pos b) =
    says_for (says_not a b) (λ h. record { ups = omega arith; downs = omega arith }) (λ h. let u = h.ups in omega arith)
says_behind (pos a) (negsuc b) = record { yes = λ e. record { ups = omega arith; downs = omega arith }; back = λ h. refl }
says_behind (negsuc a) (pos b) = record { yes = λ e. no_way e; back = λ h. (let u = h.ups in absurd (omega arith)) }
says_behind (negsuc a) (negsuc b) =
    says_for (says_not b a) (λ h. record { ups = omega arith; downs = omega arith }) (λ h. let u = h.downs in omega arith)

-- THE ORDER of the lists: whoever stands behind doesn't go before.
pub says_ranked : (w v : Waiter) → Says (not (higher v w)) (Ranked w v)
says_ranked w v = says_behind w.priority v.priority

pub says_late : (e f : Event) → Says (not (sooner f e)) (Late e f)
says_late e f = go (ltb f.time e.time) refl (eqb f.time e.time) refl
  where
    go : (b : Bool) → ltb f.time e.time ≡ b → (c : Bool) → eqb f.time e.time ≡ c
        → Says (not (b || (c && lt_z e.priority f.priority))) (Late e f)
    go true d c g =
        let l = ltb-true f.time e.time d in
        record { yes = λ x. no_way x; back = λ h. (let t = h.in_time in absurd (omega arith)) }
    go false d false g =
        let l = ltb-false f.time e.time d in
        let n = eqb-false f.time e.time g in
        record { yes = λ x. record { in_time = l; in_rank = λ t. absurd (n (sym t)) }; back = λ h. refl }
    go false d true g =
        let t = eqb-true f.time e.time g in
        says_for (says_behind e.priority f.priority) (λ h. record { in_time = omega arith; in_rank = λ u. h })
        (λ h. h.in_rank (sym t))
