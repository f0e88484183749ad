-- How many numbers one byte can tell apart, two, four and eight, in the words of the code (module byte).
-- Assumes nothing.
use Rattle.std.specs.Prelude.{ℕ, ◌*◌}

abbrev pub ONE : ℕ
ONE = 256

abbrev pub TWO : ℕ
TWO = ONE * ONE

abbrev pub FOUR : ℕ
FOUR = TWO * TWO

abbrev pub EIGHT : ℕ
EIGHT = FOUR * FOUR
