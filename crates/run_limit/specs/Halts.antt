-- What a run asks of the work before each step. Assumes nothing.
use Rattle.std.specs.Prelude.{◌≡◌, List, Bool, true, false, ℕ}
use Rattle.semantics.specs.State.{State}
use Rattle.semantics.specs.Run.{Answer, CLOSED, IDLE, LIMIT, Before, is_closed, is_idle, goes_on}
use Rattle.row_work.specs.Work.{work_of}

-- The state that a work shows.
pub record Showing (w : List ℕ) : Type 0 where
  pub is : State
  pub shows : w ≡ work_of is

abbrev pub may_go : Before → Bool
may_go is_closed = false
may_go is_idle = false
may_go goes_on = true

-- The answer of a run that makes no further step: one that may go on is at its limit.
abbrev pub halted_by : Before → Answer
halted_by is_closed = CLOSED
halted_by is_idle = IDLE
halted_by goes_on = LIMIT
