-- Codes: each u32 is the code of one number of the i32 range, and the order of the codes is that of the numbers.
-- Assumes nothing.
use Rattle.std.specs.Prelude.{◌≡◌, refl, Bool, true, false, ℕ, zero, suc, ◌+◌, ◌-◌, ◌%◌, ◌≤◌, ◌<◌, leb, ltb, ℤ, pos, negsuc, ◌-ℤ◌, if◌then◌else◌}
use Rattle.std.proofs.Common.{sym, ◌∙◌, ap, arith, lt-ltb, le-ltb, ltb-true, ltb-false, le-leb, leb-true, leb-false}
use Rattle.std.proofs.lemmas.Bool.{lt-leb}
use Rattle.std.proofs.Math.IntN.{sub_ℕ}
use Rattle.std.specs.Int.Signed.{mag, le_z}
use Rattle.semantics.specs.Words.{Outcome, ok, fails, ◌>>◌, need}
use Rattle.semantics.specs.Numbers as No
use Rattle.semantics.specs.Bytes.{signed}
use Rattle.semantics.specs.Journal.{twos}
use Rattle.semantics.specs.Value.{is_i32, in_range}
use Rattle.base_numbers.specs.Code as Code
use Rattle.base_i32.specs.Code.{code, value_of, value_in, outcome_of, Ranged, Difference, turned}

-- The number of code x is x - 2^31.
pub value_stands : (x : ℕ) → Difference (value_of x) x Code.ZERO
unfolding value_of
value_stands x = go (ltb x Code.ZERO) refl
  where
    go : (t : Bool) → ltb x Code.ZERO ≡ t →
        Difference (if t then negsuc (Code.MINUS_ONE - x) else pos (x - Code.ZERO)) x Code.ZERO
    go true e = omega (arith, ltb-true x Code.ZERO e)
    go false e = omega (arith, ltb-false x Code.ZERO e)

-- What stands at x has code x.
pub code_stands : (v : ℤ) (x : ℕ) → Difference v x Code.ZERO → code v ≡ x
unfolding code
code_stands (pos n) x d = omega arith
code_stands (negsuc n) x d = omega arith

pub code-value_of : (x : ℕ) → code (value_of x) ≡ x
code-value_of x = code_stands (value_of x) x (value_stands x)

pub value_of-code : (v : ℤ) → mag v < Code.ZERO → value_of (code v) ≡ v
unfolding code value_of
value_of-code (pos n) h = rw (le-ltb (Code.ZERO + n) Code.ZERO (omega arith)) (ap pos (omega arith))
value_of-code (negsuc n) h = rw (lt-ltb (Code.MINUS_ONE - n) Code.ZERO (omega arith)) (ap negsuc (omega arith))

pub code_fits : (v : ℤ) → mag v < Code.ZERO → code v < Code.CODES
unfolding code
code_fits (pos n) h = omega arith
code_fits (negsuc n) h = omega arith

pub value_fits : (x : ℕ) → x < Code.CODES → mag (value_of x) < Code.ZERO
value_fits x h = go (value_of x) (value_stands x)
  where
    go : (v : ℤ) → Difference v x Code.ZERO → mag v < Code.ZERO
    go (pos n) d = omega arith
    go (negsuc n) d = omega arith

-- The order of what stands at x and y is theirs.
same_test : (t : Bool) (x y : ℕ) → (t ≡ true → x ≤ y) → (t ≡ false → y < x) → t ≡ leb x y
same_test true x y f g = sym (le-leb x y (f refl))
same_test false x y f g = sym (lt-leb x y (g refl))

in_order : (v w : ℤ) (x y : ℕ) → Difference v x Code.ZERO → Difference w y Code.ZERO → le_z v w ≡ leb x y
in_order (pos m) (pos n) x y d e =
    same_test (leb m n) x y (λ h. omega (arith, leb-true m n h)) (λ h. omega (arith, leb-false m n h))
in_order (pos m) (negsuc n) x y d e = sym (lt-leb x y (omega arith))
in_order (negsuc m) (pos n) x y d e = sym (le-leb x y (omega arith))
in_order (negsuc m) (negsuc n) x y d e =
    same_test (leb n m) x y (λ h. omega (arith, leb-true n m h)) (λ h. omega (arith, leb-false n m h))

pub value_order : (x y : ℕ) → le_z (value_of x) (value_of y) ≡ leb x y
value_order x y = in_order (value_of x) (value_of y) x y (value_stands x) (value_stands y)

pub code_order : (v w : ℤ) → mag v < Code.ZERO → mag w < Code.ZERO → leb (code v) (code w) ≡ le_z v w
code_order v w h k = sym (value_order (code v) (code w)) ∙ rw (value_of-code v h, value_of-code w k)

-- How far one number is above another, by their codes.
sub_is : (a b n : ℕ) → a ≡ b + n → sub_ℕ a b ≡ pos n
sub_is a b n e = rw (le-ltb a b (omega arith)) (ap pos (omega arith))

above : (v w : ℤ) (x y : ℕ) → Difference v x Code.ZERO → Difference w y Code.ZERO → x ≤ y → w -ℤ v ≡ pos (y - x)
above (pos zero) (pos b) x y d e h = ap pos (omega arith)
above (pos (suc a)) (pos b) x y d e h = sub_is b (suc a) (y - x) (omega arith)
above (pos a) (negsuc b) x y d e h = absurd (omega arith)
above (negsuc a) (pos b) x y d e h = ap pos (omega arith)
above (negsuc a) (negsuc b) x y d e h = sub_is (suc a) (suc b) (y - x) (omega arith)

pub value_above : (x y : ℕ) → x ≤ y → value_of y -ℤ value_of x ≡ pos (y - x)
value_above x y h = above (value_of x) (value_of y) x y (value_stands x) (value_stands y) h

pub code_above : (v w : ℤ) → mag v < Code.ZERO → mag w < Code.ZERO → code v ≤ code w → w -ℤ v ≡ pos (code w - code v)
code_above v w h k l = rw (value_of-code v h, value_of-code w k) at (value_above (code v) (code w) l)

-- TWO'S COMPLEMENT. What is read so is in the range; half of 2^32 on, either way.
pub signed_fits : (n : ℕ) → mag (signed n) < Code.ZERO
signed_fits n = go (ltb n Code.ZERO) refl
  where
    go : (t : Bool) → ltb n Code.ZERO ≡ t → mag (if t then pos n else negsuc (Code.HIGHEST - n)) < Code.ZERO
    go true e = ltb-true n Code.ZERO e
    go false e = omega (arith, ltb-false n Code.ZERO e)

pub signed-turned : (n : ℕ) → n < Code.CODES → code (signed n) ≡ turned n
unfolding code turned
signed-turned n h = go (ltb n Code.ZERO) refl
  where
    go : (t : Bool) → ltb n Code.ZERO ≡ t →
        code (if t then pos n else negsuc (Code.HIGHEST - n)) ≡ (n + Code.ZERO) % Code.CODES
    go true e = omega (arith, ltb-true n Code.ZERO e)
    go false e = omega (arith, ltb-false n Code.ZERO e)

pub twos-turned : (x : ℕ) → x < Code.CODES → twos (value_of x) ≡ turned x
unfolding turned
twos-turned x h = go (value_of x) (value_stands x)
  where
    go : (v : ℤ) → Difference v x Code.ZERO → twos v ≡ (x + Code.ZERO) % Code.CODES
    go (pos n) d = omega arith
    go (negsuc n) d = omega arith

-- OUTCOMES. What arithmetic can answer, and that the code's answer tells it.
pub in_range_lem : (v : ℤ) → Ranged (in_range v)
unfolding ◌>>◌ need
in_range_lem v = go (is_i32 v) refl
  where
    go : (t : Bool) → is_i32 v ≡ t → Ranged (need No.SUM t >> ok v)
    go true e = ltb-true (mag v) Code.ZERO e
    go false e = refl

pub told : (o : Outcome ℤ) → Ranged o → outcome_of (value_in o) ≡ o
told (ok v) h = ap ok (value_of-code v h)
told (fails n) h = ap fails (sym h)
