-- A number v of the i32 range as its code, v + 2^31, and outcomes of arithmetic as the code's answers.
-- Assumes nothing.
use Rattle.std.specs.Prelude.{◌≡◌, true, false, ℕ, suc, ◌+◌, ◌-◌, ◌%◌, ◌<◌, ltb, ℤ, pos, negsuc, if◌then◌else◌}
use Rattle.std.specs.Int.Signed.{mag, le_z}
use Rattle.semantics.specs.Words.{Outcome, ok, fails}
use Rattle.semantics.specs.Numbers as No
use Rattle.base_numbers.specs.Code as Code
use Rattle.base_i32.specs.declared.Value.{Value}

unfoldable pub code : ℤ → ℕ
code (pos n) = Code.ZERO + n
code (negsuc n) = Code.MINUS_ONE - n

unfoldable pub value_of : ℕ → ℤ
value_of x = if ltb x Code.ZERO then negsuc (Code.MINUS_ONE - x) else pos (x - Code.ZERO)

-- The code's answers: a value by its code, or none.
abbrev pub a_value : ℕ → Value
a_value x = record { ok = true; code = x }

abbrev pub no_value : Value
no_value = record { ok = false; code = 0 }

-- The answer that an outcome is, and the outcome that an answer is: arithmetic has one fault.
abbrev pub value_in : Outcome ℤ → Value
value_in (ok v) = a_value (code v)
value_in (fails n) = no_value

abbrev pub outcome_of : Value → Outcome ℤ
outcome_of v = if v.ok then ok (value_of v.code) else fails No.SUM

-- An outcome that arithmetic can have.
abbrev pub Ranged : Outcome ℤ → Type 0
Ranged (ok v) = mag v < Code.ZERO
Ranged (fails n) = n ≡ No.SUM

abbrev pub smaller : ℤ → ℤ → ℤ
smaller v w = if le_z v w then v else w

abbrev pub larger : ℤ → ℤ → ℤ
larger v w = if le_z v w then w else v

-- Where 0 stands among the numbers that a sum, a difference or a product of two of them can be.
abbrev pub MIDDLE : ℕ
MIDDLE = 9_223_372_036_854_775_808

-- v is p - q, said of plain numbers alone.
abbrev pub Difference : ℤ → ℕ → ℕ → Type 0
Difference (pos n) p q = p ≡ q + n
Difference (negsuc n) p q = p + suc n ≡ q

-- 2^31 on, round the end of a u32.
unfoldable pub turned : ℕ → ℕ
turned n = (n + Code.ZERO) % Code.CODES
