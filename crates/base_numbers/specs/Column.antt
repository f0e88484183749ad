-- The columns of the table of kinds, in the words of the code (module column).
-- Assumes nothing.
use Rattle.std.specs.Prelude.{ℕ, ◌+◌}
use Rattle.semantics.specs.Kinds as K

-- How many there are, and rows: one for each kind from 0 on.
abbrev pub MANY : ℕ
MANY = 10

abbrev pub KINDS : ℕ
KINDS = K.CLOSE + 1
