-- How much the program does and prints in one turn. Assumes nothing.
use Rattle.std.specs.Prelude.{ℕ, ◌*◌}
use Rattle.base_numbers.specs.Line as Line

-- The lines that the journal has room for, its bytes, and those of the lines as text; the steps of a turn.
abbrev pub LINES : ℕ
LINES = 4_096

abbrev pub JOURNAL : ℕ
JOURNAL = LINES * Line.BYTES

abbrev pub TEXT : ℕ
TEXT = LINES * Line.TEXT

abbrev pub TURN : ℕ
TURN = 62
