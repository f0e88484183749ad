-- One answer: the contracts of a run that is kept and lent admit one, and one run and journal left. Assumes nothing.
use Rattle.std.specs.Prelude.{ℕ, ◌≡◌, List}
use Rattle.semantics.specs.Decode.{decode}
use Rattle.run_limit.specs.declared.Ran.{Ran}
use Rattle.row_struct.specs.declared.State.{State}
use Rattle.row_struct.specs.State.{row_of, Full}
use Rattle.row_struct.specs.Same.{same_state}
use Rattle.run_row.specs.Call.{Called, asked, call_row, TellsCall}
use Rattle.run_row.specs.Same.{same_called}
use Rattle.run_by_value.specs.declared.Moved.{Moved}
use Rattle.run_by_value.specs.Moved.{TellsMoved}
use Rattle.run_by_value.specs.Same.{same_run_state}
use Rattle.run_lent.specs.declared.Opened.{Opened}
use Rattle.run_lent.specs.Opened.{TellsOpened, same_opened}

pub same_open_run : (s : List ℕ) (r r' : Opened) → TellsOpened (decode s) r → TellsOpened (decode s) r' → r ≡ r'
same_open_run s r r' t u = same_opened (decode s) r r' t u

-- Any call on a run lent is told in one way only: the answer, the run and the journal that it leaves.
pub same_lent : (d : Called) (r r' : Ran) (u u' : State) (j k k' : List ℕ) → TellsCall d r (row_of u) j k → Full u
    → TellsCall d r' (row_of u') j k' → Full u' → (r ≡ r') × ((u ≡ u') × (k ≡ k'))
same_lent d r r' u u' j k k' t f t' f' =
    let e = same_called d r r' (row_of u) (row_of u') j k k' t t' in
    (e.0, (same_state u u' f f' e.1.0, e.1.1))

pub same_move_on : (s : List ℕ) (run : State) (limit : ℕ) (j : List ℕ) (r r' : Ran) (u u' : State) (k k' : List ℕ)
    → TellsCall (call_row s (asked limit j) (row_of run)) r (row_of u) j k × (Full run × Full u)
    → TellsCall (call_row s (asked limit j) (row_of run)) r' (row_of u') j k' × (Full run × Full u')
    → (r ≡ r') × ((u ≡ u') × (k ≡ k'))
same_move_on s run limit j r r' u u' k k' t t' =
    same_lent (call_row s (asked limit j) (row_of run)) r r' u u' j k k' t.0 t.1.1 t'.0 t'.1.1

pub same_moved_on : (s : List ℕ) (run : State) (limit : ℕ) (j : List ℕ) (r r' : Moved) (k k' : List ℕ)
    → TellsMoved (call_row s (asked limit j) (row_of run)) r j k × Full run
    → TellsMoved (call_row s (asked limit j) (row_of run)) r' j k' × Full run → (r ≡ r') × (k ≡ k')
same_moved_on s run limit j r r' k k' t u = same_run_state s run limit j r r' k k' t u
