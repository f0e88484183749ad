-- The reader's answer, and what it leaves in the bytes that are lent for the records.
-- Assumes nothing.
use Rattle.std.specs.Prelude.{ℕ, ◌≡◌, List, ◌++◌, length, drop}
use Rattle.std.specs.Prelude.{Result, Ok, Err}
use Rattle.text_semantics.specs.Answer.{Answer, refused, written}
use Rattle.text_reader.specs.declared.refused.Refused.{Refused}
use Rattle.text_reader.specs.Reason.{number_of}

-- Its number, 0 where the records are written, with its place, or how many bytes they are.
pub record Answered : Type 0 where
  pub number : ℕ
  pub place : ℕ

abbrev pub answered_of : Answer → Answered
answered_of (refused n p) = record { number = n; place = p }
answered_of (written ws) = record { number = 0; place = length ws }

-- .. as the code tells it.
abbrev pub told_of : Result ℕ Refused → Answered
told_of (Ok n) = record { number = 0; place = n }
told_of (Err e) = record { number = number_of e.reason; place = e.place }

-- The records stand in front of what was lent; where the text is refused, all of that is left.
abbrev pub left : Answer → List ℕ → List ℕ
left (refused n p) bs = bs
left (written ws) bs = ws ++ drop (length ws) bs

pub record Says (a : Answer) (r : Result ℕ Refused) (before after : List ℕ) : Type 0 where
  pub answer : told_of r ≡ answered_of a
  pub bytes : after ≡ left a before
