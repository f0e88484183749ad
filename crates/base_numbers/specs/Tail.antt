-- What follows a record's fields, in the words of the code (module tail).
-- Assumes nothing.
use Rattle.std.specs.Prelude.{ℕ}

abbrev pub NOTHING : ℕ
NOTHING = 0

abbrev pub EXPRESSION : ℕ
EXPRESSION = 1

abbrev pub BRANCHES : ℕ
BRANCHES = 2

abbrev pub CLAIM : ℕ
CLAIM = 3

abbrev pub SHARES : ℕ
SHARES = 4
