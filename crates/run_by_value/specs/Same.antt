-- One answer: a call on an open run by value is told in one way only, with the run and the journal that it leaves; and a run
-- that is turned away comes back as it was. Assumes nothing.
use Rattle.std.specs.Prelude.{ℕ, ◌≡◌, List}
use Rattle.std.proofs.Common.{◌∙◌, ap}
use Rattle.run_limit.specs.declared.Ran.{Ran}
use Rattle.row_struct.specs.declared.State.{State}
use Rattle.row_struct.specs.State.{row_of, Full}
use Rattle.row_struct.specs.Same.{same_state}
use Rattle.run_row.specs.Call.{Called, asked, call_row, turned_away}
use Rattle.run_row.specs.Same.{same_called}
use Rattle.run_by_value.specs.declared.Moved.{Moved}
use Rattle.run_by_value.specs.Moved.{ran_of, TellsMoved}

abbrev moved_as : Ran → State → Moved
moved_as r s = record { answer = r.answer; steps = r.steps; lines = r.lines; state = s }

pub same_moved : (d : Called) (r r' : Moved) (j k k' : List ℕ) → TellsMoved d r j k → TellsMoved d r' j k'
    → (r ≡ r') × (k ≡ k')
same_moved d r r' j k k' t u =
    let e = same_called d (ran_of r) (ran_of r') (row_of r.state) (row_of r'.state) j k k' t.tells u.tells in (
      ap (λ x. moved_as x r.state) e.0
          ∙ ap (moved_as (ran_of r')) (same_state r.state r'.state t.full u.full e.1.0),
      e.1.1,
    )

pub same_run_state : (s : List ℕ) (state : State) (limit : ℕ) (j : List ℕ) (r r' : Moved) (k k' : List ℕ)
    → TellsMoved (call_row s (asked limit j) (row_of state)) r j k × Full state
    → TellsMoved (call_row s (asked limit j) (row_of state)) r' j k' × Full state → (r ≡ r') × (k ≡ k')
same_run_state s state limit j r r' k k' t u =
    same_moved (call_row s (asked limit j) (row_of state)) r r' j k k' t.0 u.0

pub away_same : (s : State) (r : Moved) (j j' : List ℕ) → Full s → TellsMoved (turned_away (row_of s)) r j j' → r.state ≡ s
away_same s r j j' f t = same_state r.state s t.full f t.tells.row_is
