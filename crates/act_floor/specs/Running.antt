-- An open run by its work alone. Assumes nothing.
use Rattle.std.specs.Prelude.{ℕ, ◌≡◌, List}
use Rattle.std.proofs.Math.Option.{some}
use Rattle.semantics.specs.Words.{Outcome}
use Rattle.semantics.specs.Model.{Action, Model}
use Rattle.semantics.specs.State.{State, held_by, process}
use Rattle.semantics.specs.Claim.{stands_in}
use Rattle.semantics.specs.Walk.{Next}
use Rattle.promises.specs.Sound.{Sound}
use Rattle.row_work.specs.Underway.{Underway}
use Rattle.act_floor.specs.Acting.{Open, Acting}

-- `Open`, without the bytes and the map of the model.
pub record Runs (w : List ℕ) : Type 0 where
  pub run : Underway w
  pub sound : Sound run.model run.is

-- `Acting`, without them.
pub record On (w : List ℕ) (p : ℕ) (x : Action) : Type 0 where
  pub running : Runs w
  pub on_floor : running.run.is.floor ≡ held_by p
  pub stands : stands_in running.run.model (process running.run.is p).frames ≡ some x

module _ {bs map w : List ℕ} where
  abbrev pub runs : Open bs map w → Runs w
  runs o = record { run = o.run; sound = o.sound }

  abbrev pub on : {p : ℕ} {x : Action} → Acting bs map w p x → On w p x
  on a = record { running = runs a.running; on_floor = a.on_floor; stands = a.stands }

-- What the definitions make of the model and the state.
abbrev pub made : {w : List ℕ} → Runs w → (Model → State → Outcome Next) → Outcome Next
made r f = f r.run.model r.run.is
