-- One item of a claim, and the state that it is held against. Assumes nothing.
use Rattle.std.specs.Prelude.{ℕ, ◌≡◌, List, [], ◌∷◌, get_or}
use Rattle.semantics.specs.Model.{Model}
use Rattle.semantics.specs.Record.{item_of}
use Rattle.semantics.specs.State.{State}
use Rattle.promises.specs.Fit.{ItemFit}
use Rattle.base_numbers.specs.Row as Row
use Rattle.row_work.specs.Work.{work_of, Sized}
use Rattle.row_claim.specs.Asking.{Declares}

-- Where the row begins that an item of this kind is looked up in: what is free, the bins, how many wait, the variables.
abbrev pub row_of : ℕ → ℕ
row_of kind = get_or (Row.FREE ∷ Row.BINS ∷ Row.WAITS ∷ []) kind Row.GLOBALS

-- The item whose bytes are i is held against the state that w shows.
pub record MeetingItem (i w : List ℕ) : Type 0 where
  pub model : Model
  pub is : State
  pub shows : w ≡ work_of is
  pub sized : Sized is
  pub declares : Declares model is
  pub fits : ItemFit model (item_of i)
