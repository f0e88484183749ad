-- The number that a refusal is told by.
-- Assumes nothing.
use Rattle.std.specs.Prelude.{ℕ}
use Rattle.text_semantics.specs.Numbers as No
use Rattle.text_names.specs.declared.Trouble.{Trouble}
use Rattle.text_names.specs.declared.Trouble.TheVariants as T
use Rattle.text_reader.specs.declared.refused.Reason.{Reason}
use Rattle.text_reader.specs.declared.refused.Reason.TheVariants.{Grammar, Unknown, Again, Checks, Buffer}

abbrev pub number_of : Reason → ℕ
number_of Grammar = No.GRAMMAR
number_of Unknown = No.UNKNOWN
number_of Again = No.AGAIN
number_of Checks = No.CHECKS
number_of Buffer = No.BUFFER

-- A trouble with a name is one.
abbrev pub reason_of : Trouble → Reason
reason_of T.Unknown = Unknown
reason_of T.Again = Again
