-- Opening a run in a row of words, and how the code tells it. Assumes nothing.
use Rattle.std.specs.Prelude.{ℕ, ◌≡◌, List, length, eqb, if◌then◌else◌, Result, Ok, Err}
use Rattle.semantics.specs.Numbers as No
use Rattle.semantics.specs.Model.{Model}
use Rattle.semantics.specs.Decode.{Checked, refused, accepted, decode}
use Rattle.semantics.specs.State.{fresh}
use Rattle.base_numbers.specs.Row as Row
use Rattle.row_work.specs.Work.{work_of}
use Rattle.file_check_record.specs.Refused.{number_of}
use Rattle.run_row.specs.declared.Unopened.{Unopened}
use Rattle.run_row.specs.declared.Unopened.TheVariants.{File, Length}

-- The number and the place of the refusal, or 0 and 0; and the row that is left.
pub record Opened : Type 0 where
  pub number : ℕ
  pub place : ℕ
  pub row : List ℕ

abbrev pub opened_as : ℕ → ℕ → List ℕ → Opened
opened_as n p w = record { number = n; place = p; row = w }

-- A fresh run, in a row of Row.WORDS. A row of any other length has no run in it, and is left as it was.
abbrev pub opens_as : List ℕ → Checked Model → Opened
opens_as w (refused n p) = opened_as n p w
opens_as w (accepted m) = if eqb (length w) Row.WORDS then opened_as 0 0 (work_of (fresh m)) else opened_as No.STATE 0 w

unfoldable pub open_row : List ℕ → List ℕ → Opened
unfolding decode work_of
open_row bs w = opens_as w (decode bs)

-- Why no run is opened, by its number and its place; where one is, both are 0.
abbrev pub unopened_number : Unopened → ℕ
unopened_number (File r) = number_of r.refusal
unopened_number Length = No.STATE

abbrev pub unopened_place : Unopened → ℕ
unopened_place (File r) = r.place
unopened_place Length = 0

abbrev pub number_told : {A : Type 0} → Result A Unopened → ℕ
number_told (Ok a) = 0
number_told (Err u) = unopened_number u

abbrev pub place_told : {A : Type 0} → Result A Unopened → ℕ
place_told (Ok a) = 0
place_told (Err u) = unopened_place u

-- The code's r and the row w' tell the opening d.
pub record TellsOpened (d : Opened) (r : Result (Unit {0}) Unopened) (w' : List ℕ) : Type 0 where
  pub number_is : number_told r ≡ d.number
  pub place_is : place_told r ≡ d.place
  pub row_is : w' ≡ d.row
