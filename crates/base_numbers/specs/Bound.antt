-- The answer of the bound as one word, as desk_c tells it: a bound is its
-- own, and these stand behind all of them.
-- Assumes nothing.
use Rattle.std.specs.Prelude.{ℕ, ◌+◌, ◌*◌}
use Rattle.semantics.specs.Numbers as No

abbrev pub NONE : ℕ
NONE = No.largest_bound + 1

abbrev pub OVER : ℕ
OVER = 2 * NONE
