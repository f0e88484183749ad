-- What is told of a run that is opened: the refusal, or the fresh run. Assumes nothing.
use Rattle.std.specs.Prelude.{ℕ, ◌≡◌, List, replicate}
use Rattle.std.proofs.Common.{sym, ◌∙◌, ap, subst}
use Rattle.semantics.specs.Model.{Model}
use Rattle.semantics.specs.Decode.{Checked, refused, accepted, decode}
use Rattle.semantics.specs.State.{fresh}
use Rattle.base_numbers.specs.Row as Row
use Rattle.row_work.specs.Work.{work_of}
use Rattle.row_struct.specs.declared.State.{State}
use Rattle.row_struct.specs.State.{row_of, Full}
use Rattle.row_struct.specs.Same.{same_state}
use Rattle.run_lent.specs.declared.Opened.{Opened}

-- The row of the fresh run; of a file that is refused, all 0.
abbrev pub opened_row : Checked Model → List ℕ
opened_row (refused n p) = replicate Row.WORDS 0
opened_row (accepted m) = work_of (fresh m)

-- The refusal's number and its place; 0 where there is none.
abbrev pub number_in : Checked Model → ℕ
number_in (refused n p) = n
number_in (accepted m) = 0

abbrev pub place_in : Checked Model → ℕ
place_in (refused n p) = p
place_in (accepted m) = 0

-- The code's r tells what the check says of the file.
pub record TellsOpened (d : Checked Model) (r : Opened) : Type 0 where
  pub number_is : r.number ≡ number_in d
  pub place_is : r.place ≡ place_in d
  pub row_is : row_of r.state ≡ opened_row d
  pub full : Full r.state

abbrev opened_as : ℕ → ℕ → State → Opened
opened_as n p s = record { number = n; place = p; state = s }

-- In one way only.
pub same_opened : (d : Checked Model) (x y : Opened) → TellsOpened d x → TellsOpened d y → x ≡ y
same_opened d x y t u =
    let s = same_state x.state y.state t.full u.full (t.row_is ∙ sym u.row_is) in
    ap (λ n. opened_as n x.place x.state) (t.number_is ∙ sym u.number_is)
    ∙ ap (λ p. opened_as y.number p x.state) (t.place_is ∙ sym u.place_is)
    ∙ ap (opened_as y.number y.place) s

-- Of an accepted file it is 0 and a state that shows the fresh run.
pub opened_fresh : (bs : List ℕ) (m : Model) (r : Opened) → decode bs ≡ accepted m → TellsOpened (decode bs) r
    → (r.number ≡ 0) × (row_of r.state ≡ work_of (fresh m))
opened_fresh bs m r e t = let u = subst (λ d. TellsOpened d r) e t in (u.number_is, u.row_is)
