-- How the code tells a call on an open run by value. Assumes nothing.
use Rattle.std.specs.Prelude.{ℕ, List}
use Rattle.run_limit.specs.declared.Ran.{Ran}
use Rattle.row_struct.specs.State.{row_of, Full}
use Rattle.run_row.specs.Call.{Called, TellsCall}
use Rattle.run_by_value.specs.declared.Moved.{Moved}

-- What is told beside the state.
abbrev pub ran_of : Moved → Ran
ran_of r = record { answer = r.answer; steps = r.steps; lines = r.lines }

-- The code's r and the journal, j before and j' after, tell the call d. No other struct and journal do (`same_moved`).
pub record TellsMoved (d : Called) (r : Moved) (j j' : List ℕ) : Type 0 where
  pub tells : TellsCall d (ran_of r) (row_of r.state) j j'
  pub full : Full r.state
