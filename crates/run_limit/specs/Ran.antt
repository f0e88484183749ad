-- What a run answers and leaves, as the code tells it. Assumes nothing.
use Rattle.std.specs.Prelude.{ℕ, ◌≡◌, List, length}
use Rattle.semantics.specs.Run as definition
use Rattle.semantics.specs.Run.{CLOSED, IDLE, LIMIT, FAULT}
use Rattle.semantics.specs.Journal.{written}
use Rattle.row_work.specs.Work.{work_of}
use Rattle.run_limit.specs.declared.Answer.{Answer}
use Rattle.run_limit.specs.declared.Answer.TheVariants.{Closed, Idle, Limit, Fault}
use Rattle.run_limit.specs.declared.Ran.{Ran}

abbrev pub answer_of : Answer → definition.Answer
answer_of Closed = CLOSED
answer_of Idle = IDLE
answer_of Limit = LIMIT
answer_of (Fault k) = FAULT k

-- The number of an answer: 0 closed, 1 idle, 2 limit; else the fault's own.
abbrev pub number_of : definition.Answer → ℕ
number_of CLOSED = 0
number_of IDLE = 1
number_of LIMIT = 2
number_of (FAULT k) = k

-- The code's r, the work w' and the journal, j before and j' after, tell the run d.
pub record RanAs (d : definition.Ran) (r : Ran) (w' j j' : List ℕ) : Type 0 where
  pub answer_is : answer_of r.answer ≡ d.answer
  pub steps_are : r.steps ≡ d.steps
  pub lines_are : r.lines ≡ length d.lines
  pub state_is : w' ≡ work_of d.state
  pub journal_is : j' ≡ written d.lines j
