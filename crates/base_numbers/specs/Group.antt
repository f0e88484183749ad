-- The groups that the records of a file are counted in, in the words of the code (module group).
-- Assumes nothing.
use Rattle.std.specs.Prelude.{ℕ}
use Rattle.semantics.specs.Kinds as K

-- What stands for a local where the table of kinds says what a field names: a group more than there are.
abbrev pub LOCAL : ℕ
LOCAL = K.groups
