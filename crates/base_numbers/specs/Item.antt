-- The kinds of an item of a claim that names a thing, in the words of the code (module item).
-- Assumes nothing.
use Rattle.std.specs.Prelude.{ℕ}

abbrev pub GET_R : ℕ
GET_R = 0

abbrev pub GET_B : ℕ
GET_B = 1

abbrev pub GET_S : ℕ
GET_S = 2
