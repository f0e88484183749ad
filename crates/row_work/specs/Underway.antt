-- A run under way: a row shows a state of an accepted model, between steps or in the middle of one. Assumes nothing.
use Rattle.std.specs.Prelude.{ℕ, ◌≡◌, List}
use Rattle.semantics.specs.Model.{Model}
use Rattle.semantics.specs.Decode.{accepted, decode}
use Rattle.semantics.specs.State.{State}
use Rattle.promises.specs.Laws.{AllOf}
use Rattle.promises.specs.Fit.{Fit, Nested}
use Rattle.promises.specs.Sound.{Held}
use Rattle.promises.specs.Accepted.{accepted_fit, accepted_nested}
use Rattle.row_work.specs.Work.{work_of, FloorSized, Sized}
use Rattle.row_work.specs.Sized.{Rounds, held_sized, IsByte, accepted_rounds}

-- Whoever has one says what is sound of the state.
pub record Underway (w : List ℕ) : Type 0 where
  pub model : Model
  pub fits : Fit model
  pub nested : Nested model
  pub few_rounds : Rounds model
  pub is : State
  pub shows : w ≡ work_of is

-- Of an accepted file, in the state s.
abbrev pub accepted_run : (bs : List ℕ) (m : Model) → AllOf IsByte bs → decode bs ≡ accepted m → (s : State) {w : List ℕ}
    → w ≡ work_of s → Underway w
accepted_run bs m h e s shows =
    record {
      model = m;
      fits = accepted_fit bs m e;
      nested = accepted_nested bs m e;
      few_rounds = accepted_rounds bs m h e;
      is = s;
      shows = shows;
    }

module _ {w : List ℕ} (r : Underway w) where
  -- The run in another state, which the row x shows.
  abbrev pub in_state : (t : State) {x : List ℕ} → x ≡ work_of t → Underway x
  in_state t e =
      record {
        model = r.model;
        fits = r.fits;
        nested = r.nested;
        few_rounds = r.few_rounds;
        is = t;
        shows = e;
      }

  -- What is held in the middle of a step is sized.
  pub still_sized : (t : State) {z y : ℕ → ℕ} → Held r.model t t.blocked z y → FloorSized t.floor → Sized t
  still_sized t h o = held_sized r.model r.fits r.nested r.few_rounds t h o
