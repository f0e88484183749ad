-- A line of the journal, in the words of the code (module line).
-- Assumes nothing.
use Rattle.std.specs.Prelude.{ℕ}

-- Its bytes, where its parts begin, and how many bytes stand behind the length.
abbrev pub BYTES : ℕ
BYTES = 16

abbrev pub KIND_AT : ℕ
KIND_AT = 2

abbrev pub TIME_AT : ℕ
TIME_AT = 4

abbrev pub PROCESS_AT : ℕ
PROCESS_AT = 8

abbrev pub VALUE_AT : ℕ
VALUE_AT = 12

abbrev pub LENGTH : ℕ
LENGTH = 14

-- Its bytes as `plan` prints it, at most.
abbrev pub TEXT : ℕ
TEXT = 40
