-- Limits as words, in the words of the code (module most).
-- Assumes nothing.
use Rattle.std.specs.Prelude.{ℕ, ◌+◌, ◌*◌, ◌-◌}
use Rattle.semantics.specs.Numbers as No
use Rattle.base_numbers.specs.Limit as Limit
use Rattle.base_numbers.specs.Word as Word
use Rattle.base_numbers.specs.Code as Code

-- The largest word of a slave, word of one that waits, and key of an event.
abbrev pub SLAVE : ℕ
SLAVE = Word.SYNC * Limit.THINGS - 1

abbrev pub WAITER : ℕ
WAITER = Word.KEY * Word.RANKS - 1

abbrev pub KEY : ℕ
KEY = Word.TIME * No.latest + Code.HIGHEST
