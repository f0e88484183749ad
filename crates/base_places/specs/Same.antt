-- One answer: each number below 2^64 shows 64 places, so that what is said of all places that it shows has one answer.
-- Assumes nothing.
use Rattle.std.specs.Prelude.{ℕ, zero, suc, ◌*◌, ◌/◌, ◌%◌, ◌<◌, ◌≡◌, refl, List, [], ◌∷◌, Bool, true, false, pos, length, set}
use Rattle.std.proofs.Common.{arith, ◌∙◌, ap}
use Rattle.std.proofs.Math.Path.{sym}
use Rattle.semantics.specs.Numbers as No
use Rattle.semantics.specs.State.{Process, nobody, is_free}
use Rattle.base_numbers.specs.Byte as Byte
use Rattle.base_places.specs.Places.{lives, living_of, Shows}

-- A PLACE of a binary digit: free, or somebody in a block has it.
abbrev somebody : Process
somebody =
    record {
      number = 1;
      priority = pos 0;
      locals = [];
      held = [];
      slaves = [];
      frames = record { block = 0; at = 0; rounds = 1 } ∷ [];
    }

abbrev place_of : ℕ → Process
place_of zero = nobody
place_of (suc d) = somebody

lives_digit : (d : ℕ) → d < 2 → lives (place_of d) ≡ d
lives_digit zero l = refl
lives_digit (suc zero) l = refl
lives_digit (suc (suc d)) l = absurd (omega arith)

-- THE PLACES of the first n digits of x.
places_of : ℕ → ℕ → List Process
places_of zero x = []
places_of (suc n) x = place_of (x % 2) ∷ places_of n (x / 2)

places_many : (n x : ℕ) → length (places_of n x) ≡ n
unfolding places_of
places_many zero x = refl
places_many (suc n) x = ap suc (places_many n (x / 2))

power_of : ℕ → ℕ
power_of zero = 1
power_of (suc n) = 2 * power_of n

digits_are : (n x : ℕ) → x < power_of n → living_of (places_of n x) ≡ x
unfolding living_of places_of power_of
digits_are zero x l = omega arith
digits_are (suc n) x l =
    let a = lives_digit (x % 2) (omega arith) in let b = digits_are n (x / 2) (omega arith) in omega arith

module _ (living : ℕ) (low : living < Byte.EIGHT) where
  shown : Shows living (places_of No.places living)
  unfolding power_of
  shown = record { places = places_many No.places living; digits = sym (digits_are No.places living low) }

  -- What is read of the places has one answer,
  pub same_read : (f : List Process → ℕ) (B : ℕ → Type 0) (r r' : ℕ)
      → ((ps : List Process) → Shows living ps → r ≡ f ps) × B r
      → ((ps : List Process) → Shows living ps → r' ≡ f ps) × B r' → r ≡ r'
  same_read f B r r' h k = h.0 (places_of No.places living) shown ∙ sym (k.0 (places_of No.places living) shown)

  -- and so has the number of the places with another process in one of them, one that lives or nobody.
  pub same_changed : (p : ℕ) (free : Bool) (r r' : ℕ)
      → ((ps : List Process) (q : Process) → Shows living ps → is_free q ≡ free → r ≡ living_of (set ps p q))
      → ((ps : List Process) (q : Process) → Shows living ps → is_free q ≡ free → r' ≡ living_of (set ps p q)) → r ≡ r'
  same_changed p true r r' h k =
      h (places_of No.places living) nobody shown refl ∙ sym (k (places_of No.places living) nobody shown refl)
  same_changed p false r r' h k =
      h (places_of No.places living) somebody shown refl ∙ sym (k (places_of No.places living) somebody shown refl)
