-- The parts of a slice as its iterator of chunks gives them: a test that all pass, or that one does. Assumes nothing.
use Rattle.std.proofs.Common.{ℕ, ◌≡◌, refl, ◌∙◌, ◌+◌, ◌-◌, ◌*◌, ◌≤◌, ◌<◌, List, ◌∷◌, ◌++◌, length, take, drop, Bool, true, false, ◌&&◌, zero, suc}
use Rattle.std.proofs.lemmas.List.{take_at, drop_at, length-append}
use Rattle.file_check_parts.proofs.Laws.{parts-cons, parts_none}
use native.Mathlib.Omega.{arith}
use Rattle.semantics.specs.Words.{all, any}
use Rattle.semantics.specs.Bytes.{parts}
use Rattle.semantics.specs.Record.{repeats}

-- One comes: of r, with n parts to come, it is x; r' is left, with m parts to come.
module _ (k n m : ℕ) (r x r' : List ℕ) (e : r ≡ x ++ r') (l : length x ≡ k) (o : m + 1 ≡ n) where
  pub comes : parts k n r ≡ x ∷ parts k m r'
  comes =
      let i : n - 1 ≡ m = omega arith in
      parts-cons k n r (omega arith) ∙ rw (i, e, take_at x r' k l, drop_at x r' k l) refl

  pub room : k * n ≤ length r → k * m ≤ length r'
  room f = let a : length r ≡ length x + length r' = rw e (length-append x r') in
      let b : k * (m + 1) ≤ length r = rw o f in
      omega (arith)

  module _ (p : List ℕ → Bool) where
    pub turns : (t u : Bool) → u ≡ p x → ((t && u) && all p (parts k m r')) ≡ (t && all p (parts k n r))
    turns true u e = rw (comes, e) refl
    turns false u e = refl

    pub finds : p x ≡ true → any p (parts k n r) ≡ true
    finds e = rw (comes, e) refl

    pub seeks : p x ≡ false → any p (parts k n r) ≡ any p (parts k m r')
    seeks e = rw (comes, e) refl

pub no_room : (k n l : ℕ) → 0 < k → k * n ≤ l → (0 < n → l < k) → n ≡ 0
no_room k zero l o f e = refl
no_room k (suc n) l o f e = absurd (omega (arith, e (omega arith)))

-- None comes: less than a part is left, or as many have come as were asked for.
module _ (k n : ℕ) (r : List ℕ) (o : 0 < k) (f : k * n ≤ length r) (e : 0 < n → length r < k) (p : List ℕ → Bool) where
  pub all_came : all p (parts k n r) ≡ true
  all_came = rw (parts_none k n r (no_room k n (length r) o f e)) refl

  pub any_came : any p (parts k n r) ≡ false
  any_came = rw (parts_none k n r (no_room k n (length r) o f e)) refl

-- The first is compared with those behind it, as long as there is one.
module _ (same : List ℕ → List ℕ → Bool) (k z n : ℕ) (r x r' : List ℕ) (i : z ≡ k) (o : 0 < n) (e : x ≡ take z r) (f : r' ≡ drop z r) where
  split : parts k n r ≡ x ∷ parts k (n - 1) r'
  split = parts-cons k n r o ∙ rw (e, f, i) refl

  pub repeats_here : any (same x) (parts k (n - 1) r') ≡ true → repeats same (parts k n r) ≡ true
  unfolding repeats
  repeats_here t = rw (split, t) refl

  pub repeats_on : any (same x) (parts k (n - 1) r') ≡ false → repeats same (parts k n r) ≡ repeats same (parts k (n - 1) r')
  unfolding repeats
  repeats_on t = rw (split, t) refl

pub repeats_no_more : (same : List ℕ → List ℕ → Bool) (k n : ℕ) (r : List ℕ) → n ≤ 0 → repeats same (parts k n r) ≡ false
unfolding repeats
repeats_no_more same k n r o = rw (parts_none k n r (omega arith)) refl
