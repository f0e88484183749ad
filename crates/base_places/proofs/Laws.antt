-- The digits of the number that shows the places, counted, and one of them written. Assumes nothing.
use Rattle.std.specs.Prelude.{if◌then◌else◌}
use mathlib.Core.Path.{◌≡◌, refl, ◌∙◌, ap}
use mathlib.Core.List.{List, [], ◌∷◌}
use mathlib.Core.Bool.{Bool, true, false, not}
use Prim.Native.Nat.{ℕ, zero, suc, ◌+◌, ◌-◌, ◌*◌, ◌/◌, ◌%◌, ◌^◌, ◌<◌, max, min}
use native.Mathlib.Nat.{pow-suc, one-mul}
use native.Mathlib.Omega.{arith}
use lib.Bits.{bit_and, bit_or, and_step, or_step, and_zero_r, or_zero_r}
use lib.Count.{ones, ones_step, count_trailing_zeros, under}
use lib.IntN.{pos}
use lib.Pow.{shl_exact}
use lib.ListN.{length, set}
use Rattle.semantics.specs.Words.{first_at, keep}
use Rattle.semantics.specs.State.{Process, nobody, is_free}
use Rattle.base_places.specs.Places.{lives, living_of, Shows}

-- A place's digit, and whether it is free.
lives_by : (P : Bool → ℕ → Type 0) (q : Process) → P true 0 → P false 1 → P (is_free q) (lives q)
lives_by P q t f = by (is_free q)
  where
    by : (b : Bool) → P b (if b then 0 else 1)
    by true = t
    by false = f

-- The lowest digit is that of the first place, and the others are those of the rest.
module _ (q : Process) (n : ℕ) where
  digit : lives q < 2
  digit = lives_by (λ b d. d < 2) q (omega arith) (omega arith)

  lowest : (lives q + 2 * n) % 2 ≡ lives q
  lowest = let d = digit in omega arith

  others : (lives q + 2 * n) / 2 ≡ n
  others = let d = digit in omega arith

living_low : (ps : List Process) → living_of ps < 2 ^ length ps
unfolding living_of
living_low [] = omega arith
living_low (q ∷ qs) = omega (arith, living_low qs, digit q 0, pow-suc 2 (length qs))

pub first_free : (ps : List Process) → count_trailing_zeros (length ps) (2 ^ length ps - 1 - living_of ps) ≡ first_at is_free ps
unfolding living_of count_trailing_zeros
first_free [] = refl
first_free (q ∷ qs) =
    let k : ℕ = length qs in
    let m : ℕ = 2 ^ suc k - 1 - (lives q + 2 * living_of qs) in
    let d = digit q 0 in
    let h = living_low qs in
    let p : 2 ^ suc k ≡ 2 ^ k * 2 = pow-suc 2 k in
    let l : m % 2 ≡ 1 - lives q = omega arith in
    let r : m / 2 ≡ 2 ^ k - 1 - living_of qs = omega arith in
    let t : ℕ = first_at is_free qs in
    rw (l, r, first_free qs) (lives_by (λ b n. under (1 - n) t ≡ (if b then 0 else suc t)) q refl refl)

pub all_living : (ps : List Process) → ones (living_of ps) ≡ length (keep (λ q. not (is_free q)) ps)
unfolding living_of ones
all_living [] = refl
all_living (q ∷ qs) =
    let ks : List Process = keep (λ q. not (is_free q)) qs in
    ones_step (lives q + 2 * living_of qs)
    ∙ rw (lowest q (living_of qs), others q (living_of qs), all_living qs)
    (lives_by (λ b n. n + length ks ≡ length (if not b then q ∷ ks else ks)) q (omega arith) (omega arith))

-- The power of a place further on is even, and half of it is that of the place before.
module _ (p : ℕ) where
  half : 2 ^ suc p / 2 ≡ 2 ^ p
  half = omega (arith, pow-suc 2 p)

  even : 2 ^ suc p % 2 ≡ 0
  even = omega (arith, pow-suc 2 p)

pub comes : (ps : List Process) (p : ℕ) (q : Process) → p < length ps → is_free q ≡ false
    → bit_or (living_of ps) (2 ^ p) ≡ living_of (set ps p q)
unfolding living_of
comes [] p q h e = absurd (omega arith)
comes (x ∷ xs) zero q h e =
    or_step (lives x + 2 * living_of xs) 1
    ∙ rw (lowest x (living_of xs), others x (living_of xs), or_zero_r (living_of xs), e)
    (lives_by (λ b n. living_of xs * 2 + max n 1 ≡ 1 + 2 * living_of xs) x (omega arith) (omega arith))
comes (x ∷ xs) (suc p) q h e =
    or_step (lives x + 2 * living_of xs) (2 ^ suc p)
    ∙ rw (lowest x (living_of xs), others x (living_of xs), half p, even p, comes xs p q (omega arith) e)
    (lives_by (λ b n. living_of (set xs p q) * 2 + max n 0 ≡ n + 2 * living_of (set xs p q)) x (omega arith) (omega arith))

pub goes : (ps : List Process) (p : ℕ) (q : Process) → p < length ps → is_free q ≡ true
    → living_of (set ps p q) + bit_and (living_of ps) (2 ^ p) ≡ living_of ps
unfolding living_of
goes [] p q h e = absurd (omega arith)
goes (x ∷ xs) zero q h e =
    rw (and_step (lives x + 2 * living_of xs) 1, lowest x (living_of xs), others x (living_of xs), and_zero_r (living_of xs), e)
    (lives_by (λ b n. 0 + 2 * living_of xs + (0 * 2 + min n 1) ≡ n + 2 * living_of xs) x (omega arith) (omega arith))
goes (x ∷ xs) (suc p) q h e =
    let i = goes xs p q (omega arith) e in
    let b : ℕ = bit_and (living_of xs) (2 ^ p) in
    rw (and_step (lives x + 2 * living_of xs) (2 ^ suc p), lowest x (living_of xs), others x (living_of xs), half p, even p)
    (lives_by (λ t n. n + 2 * living_of (set xs p q) + (b * 2 + min n 0) ≡ n + 2 * living_of xs) x (omega arith) (omega arith))

-- The power of a place, as a shift makes it.
pub place_bit : (p : ℕ) → p < 64 → (1 * 2 ^ p) % 2 ^ 64 ≡ 2 ^ p
place_bit p h = shl_exact 1 p 64 (omega arith) (omega arith) ∙ one-mul (2 ^ p)

-- Every number of 64 digits shows some places, so a contract that speaks of all places that it shows leaves nothing open.
busy : Process
busy =
    record {
      number = 1;
      priority = pos 0;
      locals = [];
      held = [];
      slaves = [];
      frames = record { block = 0; at = 0; rounds = 1 } ∷ [];
    }

bearer : (d : ℕ) → d < 2 → (q : Process) × (lives q ≡ d)
unfolding busy
bearer zero h = (nobody, refl)
bearer (suc zero) h = (busy, refl)
bearer (suc (suc d)) h = absurd (omega arith)

some_places : (k n : ℕ) → n < 2 ^ k → (ps : List Process) × ((length ps ≡ k) × (n ≡ living_of ps))
unfolding living_of
some_places zero n h = ([], (refl, omega arith))
some_places (suc k) n h =
    let q = bearer (n % 2) (omega arith) in
    let r = some_places k (n / 2) (omega (arith, pow-suc 2 k)) in
    (q.0 ∷ r.0, (ap suc r.1.0, omega (arith, q.1, r.1.1)))

pub shows_some : (n : ℕ) → n < 2 ^ 64 → (ps : List Process) × Shows n ps
shows_some n h = let r = some_places 64 n h in (r.0, record { places = r.1.0; digits = r.1.1 })
