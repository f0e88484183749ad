-- How many bytes there are at most in what is printed; a line of the journal has Line.TEXT (base_numbers). Assumes nothing.
use Rattle.std.specs.Prelude.{ℕ, ◌+◌}

-- The digits of a number of 64 bits.
abbrev pub DIGITS : ℕ
DIGITS = 20

-- A number of 32 bits and a mark behind it.
abbrev pub FIELD : ℕ
FIELD = 11

-- The answer and a blank: `fault` and its number, at the longest. Then the last line: behind the answer the steps, `bound` and
-- the bound.
abbrev pub ANSWER : ℕ
ANSWER = 6 + FIELD

abbrev pub ENDING : ℕ
ENDING = ANSWER + FIELD + 6 + FIELD

-- A refusal: `refused`, its number, `at`, its place and the end of the line.
abbrev pub REFUSAL : ℕ
REFUSAL = 8 + FIELD + 3 + DIGITS + 1
