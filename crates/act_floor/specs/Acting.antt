-- An open run in the engine's hands, and what a step makes of the work and the journal. Assumes nothing.
use Rattle.std.specs.Prelude.{ℕ, ◌+◌, ◌*◌, ◌≤◌, ◌≡◌, refl, List, [], length}
use Rattle.std.proofs.Math.Option.{some}
use Rattle.semantics.specs.Words.{Outcome, ok, fails}
use Rattle.semantics.specs.Model.{Action}
use Rattle.semantics.specs.State.{held_by, process}
use Rattle.semantics.specs.Claim.{stands_in}
use Rattle.semantics.specs.Walk.{Next}
use Rattle.semantics.specs.Run.{goes_on, before}
use Rattle.promises.specs.Sound.{Sound}
use Rattle.base_numbers.specs.Limit as Limit
use Rattle.base_numbers.specs.Line as Line
use Rattle.row_work.specs.Work.{work_of}
use Rattle.row_work.specs.Underway.{Underway}
use Rattle.file_map.specs.Map.{Mapped}
use Rattle.base_journal.specs.Wrote.{wrote_at}

-- A sound run of an accepted model: w shows its state, and map and bs are its model's.
pub record Open (bs map w : List ℕ) : Type 0 where
  pub run : Underway w
  pub mapped : Mapped bs run.model map
  pub sound : Sound run.model run.is

-- It goes on: it is not closed, and somebody has the floor or is in the event list.
pub record Going (bs map w : List ℕ) : Type 0 where
  pub running : Open bs map w
  pub goes_on : before running.run.is ≡ goes_on

-- In it the process in place p has the floor and stands at the action x.
pub record Acting (bs map w : List ℕ) (p : ℕ) (x : Action) : Type 0 where
  pub running : Open bs map w
  pub on_floor : running.run.is.floor ≡ held_by p
  pub stands : stands_in running.run.model (process running.run.is p).frames ≡ some x

-- Room for a line for each of the 64 places and two more.
abbrev pub Roomy : ℕ → List ℕ → Type 0
Roomy at out = Line.BYTES * (at + Limit.STEP_LINES) ≤ length out

-- The step o was made: `fault` is 0 or its fault, `lines` is how many lines it wrote, from line `at` on. A fault leaves all as
-- it was.
abbrev pub Stepped : Outcome Next → (fault lines : ℕ) (w w' : List ℕ) (at : ℕ) (out out' : List ℕ) → Type 0
Stepped (ok n) fault lines w w' at out out' =
    (fault ≡ 0) × ((lines ≡ length n.lines) × ((w' ≡ work_of n.state) × (out' ≡ wrote_at at n.lines out)))
Stepped (fails k) fault lines w w' at out out' = (fault ≡ k) × ((lines ≡ 0) × ((w' ≡ w) × (out' ≡ out)))

-- `Stepped`, of a step that writes no line: its journal isn't lent.
abbrev pub SteppedQuietly : Outcome Next → (fault lines : ℕ) (w w' : List ℕ) → Type 0
SteppedQuietly (ok n) fault lines w w' = (fault ≡ 0) × ((lines ≡ 0) × ((w' ≡ work_of n.state) × (n.lines ≡ [])))
SteppedQuietly (fails k) fault lines w w' = (fault ≡ k) × ((lines ≡ 0) × (w' ≡ w))

-- Whatever the journal, it stays as it is.
pub quietly : (o : Outcome Next) (fault lines : ℕ) (w w' : List ℕ) (at : ℕ) (out : List ℕ)
    → SteppedQuietly o fault lines w w' → Stepped o fault lines w w' at out out
unfolding wrote_at
quietly (ok n) fault lines w w' at out h =
    (h.0, (rw h.1.1.1 h.1.0, (h.1.1.0, rw h.1.1.1 refl)))
quietly (fails k) fault lines w w' at out h = (h.0, (h.1.0, (h.1.1, refl)))
