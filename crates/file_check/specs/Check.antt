-- What the checks answer, as the definitions say it. Assumes nothing.
use Rattle.std.specs.Prelude.{ℕ, ◌≤◌, List, length, Result, Ok, Err}
use Rattle.semantics.specs.Words.{Passed, passed}
use Rattle.semantics.specs.Numbers as No
use Rattle.semantics.specs.Bytes.{records_from}
use Rattle.semantics.specs.Decode.{Checked, refused, accepted}
use Rattle.promises.specs.Passes.{TwoPasses}
use Rattle.file_check_record.specs.Refused.{number_of}
use Rattle.file_check.specs.declared.Refused.{Refused}

-- The refusal by its number, or what is told of a file that passes.
abbrev pub checked_of : {A : Type 0} → Result A Refused → Checked A
checked_of (Ok a) = accepted a
checked_of (Err r) = refused (number_of r.refusal) r.place

-- The same where nothing is told of a file that passes.
abbrev pub passed_of : {A : Type 0} → Result A Refused → Checked Passed
passed_of (Ok a) = accepted passed
passed_of (Err r) = refused (number_of r.refusal) r.place

-- The bytes of a file that passes 1 to 9.
pub record Named (bs : List ℕ) : Type 0 where
  pub short : length bs ≤ No.longest_file
  pub two : TwoPasses (records_from 0 bs)
