-- The row of one process: where each part begins, in the words of the code (module process).
-- Assumes nothing.
use Rattle.std.specs.Prelude.{ℕ, ◌+◌, ◌-◌}
use Rattle.semantics.specs.Numbers as No
use Rattle.base_numbers.specs.Limit as Limit

-- Its number, the code of its priority, how many blocks it is in and how many slaves it has.
abbrev pub NUMBER : ℕ
NUMBER = 0

abbrev pub PRIORITY : ℕ
PRIORITY = 1

abbrev pub DEPTH : ℕ
DEPTH = 2

abbrev pub SLAVES : ℕ
SLAVES = 3

-- The codes of its locals, what it holds, its blocks, its slaves; and the end.
abbrev pub LOCALS : ℕ
LOCALS = SLAVES + 1

abbrev pub HELD : ℕ
HELD = LOCALS + No.locals

abbrev pub BLOCKS : ℕ
BLOCKS = HELD + Limit.THINGS

abbrev pub OWNED : ℕ
OWNED = BLOCKS + Limit.DEPTH

abbrev pub WORDS : ℕ
WORDS = 128

-- How many numbers the slaves have: more than the 64 that there can be, so that a row has a power of 2.
abbrev pub OWNED_MOST : ℕ
OWNED_MOST = WORDS - (OWNED)

-- The innermost of n blocks stands n further than this.
abbrev pub BEFORE_BLOCKS : ℕ
BEFORE_BLOCKS = (BLOCKS) - 1
