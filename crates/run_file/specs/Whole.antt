-- A whole run of a file as the code tells it, and what it leaves of the journal. Assumes nothing.
use Rattle.std.specs.Prelude.{ℕ, List, Result, Ok, Err}
use Rattle.semantics.specs.Decode.{Checked, refused, accepted}
use Rattle.semantics.specs.Desk.{Told}
use Rattle.file_check_record.specs.Refused.{number_of}
use Rattle.file_check.specs.declared.Refused.{Refused}
use Rattle.run_limit.specs.Ran.{answer_of}
use Rattle.run_file.specs.declared.Whole.{Whole}

-- The journal holds j afterwards.
abbrev pub told_of : Result Whole Refused → List ℕ → Checked Told
told_of (Ok w) j = accepted (record { answer = answer_of w.answer; steps = w.steps; journal = j })
told_of (Err r) j = refused (number_of r.refusal) r.place

-- The journal was j; a file that is refused leaves it so.
abbrev pub journal_after : Checked Told → List ℕ → List ℕ
journal_after (refused n p) j = j
journal_after (accepted t) j = t.journal
