-- A call on an open run that is handed in as the bytes of its model file and a row of words, and how the code tells it.
-- Assumes nothing.
use Rattle.std.specs.Prelude.{ℕ, ◌≡◌, List, [], ◌∷◌, Bool, true, false, length}
use Rattle.semantics.specs.Numbers as No
use Rattle.semantics.specs.Decode.{refused, accepted, decode}
use Rattle.semantics.specs.Walk.{Line}
use Rattle.semantics.specs.Run as definition
use Rattle.semantics.specs.Run.{Answer, FAULT, Ask, call}
use Rattle.semantics.specs.Journal.{room_in, written}
use Rattle.row_work.specs.Work.{work_of}
use Rattle.run_limit.specs.declared.Answer.TheVariants.{Fault}
use Rattle.run_limit.specs.declared.Ran.{Ran}
use Rattle.run_limit.specs.Ran.{answer_of}
use Rattle.row_view.specs.View.{view_by, view_in, same_row}

-- The answer, the steps done, and the row and the lines that the call leaves.
pub record Called : Type 0 where
  pub answer : Answer
  pub steps : ℕ
  pub row : List ℕ
  pub lines : List Line

abbrev pub called_as : definition.Ran → Called
called_as d = record { answer = d.answer; steps = d.steps; row = work_of d.state; lines = d.lines }

-- 20 comes before any step, and leaves the row as it was.
abbrev pub turned_away : List ℕ → Called
turned_away w = record { answer = FAULT No.STATE; steps = 0; row = w; lines = [] }

-- By whether the row is the one form of the state that it shows; the call on that state is d.
abbrev pub called_if : Bool → definition.Ran → List ℕ → Called
called_if true d w = called_as d
called_if false d w = turned_away w

unfoldable pub call_row : List ℕ → Ask → List ℕ → Called
unfolding decode same_row work_of view_by call
call_row bs a w =
    elim (decode bs) [
      | refused n p ↦ turned_away w
      | accepted m ↦ called_if (same_row w (work_of (view_in m w))) (call bs a (view_in m w)) w
    ]

-- Several calls in a row, each taking the row as the call before left it: the row they leave.
abbrev pub leaves_row : List ℕ → List Ask → List ℕ → List ℕ
leaves_row bs [] w = w
leaves_row bs (a ∷ rest) w = leaves_row bs rest (call_row bs a w).row

-- What is asked: so many steps at most, and the lines that the journal j has room for.
abbrev pub asked : ℕ → List ℕ → Ask
asked limit j = record { limit = limit; room = room_in j }

-- What the code tells of a run that is turned away.
abbrev pub away : Ran
away = record { answer = Fault No.STATE; steps = 0; lines = 0 }

-- The code's r, the row w' and the journal, j before and j' after, tell the call d.
pub record TellsCall (d : Called) (r : Ran) (w' j j' : List ℕ) : Type 0 where
  pub answer_is : answer_of r.answer ≡ d.answer
  pub steps_are : r.steps ≡ d.steps
  pub lines_are : r.lines ≡ length d.lines
  pub row_is : w' ≡ d.row
  pub journal_is : j' ≡ written d.lines j
