-- Codes of numbers of the i32 range, v + 2^31, in the words of the code (module code).
-- Assumes nothing.
use Rattle.std.specs.Prelude.{ℕ, ◌+◌, ◌-◌}
use Rattle.std.specs.Int.Signed.{mag}
use Rattle.semantics.specs.Numbers as No

-- Of 0 and of -1, of the lowest priority of a process, of the priority of returns; and the highest.
abbrev pub ZERO : ℕ
ZERO = 2_147_483_648

abbrev pub MINUS_ONE : ℕ
MINUS_ONE = ZERO - 1

abbrev pub LOWEST : ℕ
LOWEST = MINUS_ONE - mag No.lowest

abbrev pub OF_RETURNS : ℕ
OF_RETURNS = MINUS_ONE - mag No.of_returns

abbrev pub HIGHEST : ℕ
HIGHEST = 4_294_967_295

-- How many there are.
abbrev pub CODES : ℕ
CODES = HIGHEST + 1
