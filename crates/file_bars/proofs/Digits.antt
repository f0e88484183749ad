-- When the bits of one number are all among those of another, digit by digit. Assumes nothing.
use Prim.Native.Nat.{ℕ, zero, suc, ◌/◌, ◌%◌, ◌^◌, max}
use mathlib.Core.Path.{◌≡◌, refl, sym, ◌∙◌}
use mathlib.Core.Bool.{Bool, true, false, ◌&&◌, ◌||◌, and-true, and-false, and_assoc}
use native.Mathlib.Omega.{arith}
use borrow.Author.Tests.{leb-true, leb-false, eqb-true, eqb-false, le-leb, lt-leb, eq-eqb, ne_eqb}
use lib.Arith.{bin_ind}
use lib.Bits.{bit_and, bit_or, and_step, or_step, and_zero_r}
use lib.Dec.{leb, eqb, leb-zero, eqb-zero-suc, eqb-suc-zero, eqb-suc-suc}
use Rattle.file_bars.specs.Bits.{bits_in}

-- The lowest digits, and the others.
in_step : (a m : ℕ) → bits_in a m ≡ leb (a % 2) (m % 2) && bits_in (a / 2) (m / 2)
unfolding bits_in
in_step a m = by (leb (a % 2) (m % 2)) refl (eqb (bit_and (a / 2) (m / 2)) (a / 2)) refl
  where
    by : (t : Bool) → leb (a % 2) (m % 2) ≡ t → (u : Bool) → eqb (bit_and (a / 2) (m / 2)) (a / 2) ≡ u
        → eqb (bit_and a m) a ≡ t && u
    by true e true f =
        let g = eqb-true (bit_and (a / 2) (m / 2)) (a / 2) f in
        eq-eqb (bit_and a m) a (omega (arith, and_step a m, leb-true (a % 2) (m % 2) e))
    by true e false f =
        let g = leb-true (a % 2) (m % 2) e in
        ne_eqb (bit_and a m) a (λ h. eqb-false (bit_and (a / 2) (m / 2)) (a / 2) f (omega (arith, and_step a m)))
    by false e u f = ne_eqb (bit_and a m) a (λ h. omega (arith, and_step a m, leb-false (a % 2) (m % 2) e))

module _ (a b : ℕ) where
  or_low : bit_or a b % 2 ≡ max (a % 2) (b % 2)
  or_low = omega (arith, or_step a b)

  or_high : bit_or a b / 2 ≡ bit_or (a / 2) (b / 2)
  or_high = omega (arith, or_step a b)

larger_below : (a b m : ℕ) → leb (max a b) m ≡ leb a m && leb b m
larger_below a b m = by (leb a m) refl (leb b m) refl
  where
    by : (t : Bool) → leb a m ≡ t → (u : Bool) → leb b m ≡ u → leb (max a b) m ≡ t && u
    by true e true f = le-leb (max a b) m (omega (arith, leb-true a m e, leb-true b m f))
    by true e false f = lt-leb (max a b) m (omega (arith, leb-false b m f))
    by false e u f = lt-leb (max a b) m (omega (arith, leb-false a m e))

larger_above : (m a b : ℕ) → leb m (max a b) ≡ leb m a || leb m b
larger_above m a b = by (leb m a) refl (leb m b) refl
  where
    by : (t : Bool) → leb m a ≡ t → (u : Bool) → leb m b ≡ u → leb m (max a b) ≡ t || u
    by true e u f = le-leb m (max a b) (omega (arith, leb-true m a e))
    by false e true f = le-leb m (max a b) (omega (arith, leb-true m b f))
    by false e false f = lt-leb m (max a b) (omega (arith, leb-false m a e, leb-false m b f))

pub and_swap : (a b c : Bool) → a && (b && c) ≡ b && (a && c)
and_swap true b c = refl
and_swap false b c = sym (and-false b)

pub or_in : (a b m : ℕ) → bits_in (bit_or a b) m ≡ bits_in a m && bits_in b m
unfolding bits_in
or_in a =
    bin_ind (λ (n : ℕ). (b m : ℕ) → bits_in (bit_or n b) m ≡ bits_in n m && bits_in b m) (λ b m. refl)
    (λ n ih b m. in_step (bit_or n b) m
    ∙ rw (or_low n b, or_high n b, ih (b / 2) (m / 2), larger_below (n % 2) (b % 2) (m % 2), in_step n m, in_step b m)
    (simp (and_assoc, and_swap))) a

-- ONE BIT among others.
module _ (i : ℕ) where
  half : 2 ^ suc i / 2 ≡ 2 ^ i
  half = omega arith

  even : 2 ^ suc i % 2 ≡ 0
  even = omega arith

  later_bit : (m : ℕ) → bits_in (2 ^ suc i) m ≡ bits_in (2 ^ i) (m / 2)
  later_bit m = in_step (2 ^ suc i) m ∙ rw (even, half, leb-zero (m % 2))

first_bit : (m : ℕ) → bits_in 1 m ≡ leb 1 (m % 2)
unfolding bits_in
first_bit m = in_step 1 m ∙ and-true (leb 1 (m % 2))

pub bit_in_none : (i : ℕ) → bits_in (2 ^ i) 0 ≡ false
unfolding bits_in
bit_in_none zero = refl
bit_in_none (suc i) = later_bit i 0 ∙ bit_in_none i

pub bit_in_bit : (i j : ℕ) → bits_in (2 ^ i) (2 ^ j) ≡ eqb i j
unfolding bits_in
bit_in_bit zero zero = refl
bit_in_bit zero (suc j) = first_bit (2 ^ suc j) ∙ rw (even j, eqb-zero-suc j)
bit_in_bit (suc i) zero = later_bit i 1 ∙ rw (bit_in_none i, eqb-suc-zero i)
bit_in_bit (suc i) (suc j) = later_bit i (2 ^ suc j) ∙ rw (half j, bit_in_bit i j, eqb-suc-suc i j)

pub bit_in_or : (i a b : ℕ) → bits_in (2 ^ i) (bit_or a b) ≡ bits_in (2 ^ i) a || bits_in (2 ^ i) b
bit_in_or zero a b =
    first_bit (bit_or a b) ∙ rw (or_low a b, larger_above 1 (a % 2) (b % 2), first_bit a, first_bit b)
bit_in_or (suc i) a b =
    later_bit i (bit_or a b) ∙ rw (or_high a b, bit_in_or i (a / 2) (b / 2), later_bit i a, later_bit i b)

-- Only 0 has no bit.
pub in_none : (a : ℕ) → bits_in a 0 ≡ eqb a 0
unfolding bits_in
in_none zero = refl
in_none (suc a) = rw (and_zero_r (suc a), eqb-zero-suc a, eqb-suc-zero a)
