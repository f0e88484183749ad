-- The process on the floor at the end of a block. Assumes nothing.
use Rattle.std.specs.Prelude.{ℕ, ◌≡◌, List, [], ◌∷◌, false}
use Rattle.std.proofs.Math.Option.{none}
use Rattle.semantics.specs.Words.{is_empty}
use Rattle.semantics.specs.Model.{Action}
use Rattle.semantics.specs.State.{Frame, held_by, process}
use Rattle.semantics.specs.Claim.{stands_in}
use Rattle.act_floor.specs.Acting.{Open, Acting}
use Rattle.act_floor.specs.Running.{Runs}

-- The process on the floor has done the last action of its innermost block;
pub record Exhausted (bs map w : List ℕ) (p : ℕ) : Type 0 where
  pub running : Open bs map w
  pub on_floor : running.run.is.floor ≡ held_by p
  pub stands : stands_in running.run.model (process running.run.is p).frames ≡ none

-- or it leaves that block, which is its class body;
pub record Ends (w : List ℕ) (p : ℕ) : Type 0 where
  pub running : Runs w
  pub on_floor : running.run.is.floor ≡ held_by p
  pub in_body : Frame
  pub frames_are : (process running.run.is p).frames ≡ in_body ∷ []

-- or which stands within others;
pub record Leaves (bs map w : List ℕ) (p : ℕ) : Type 0 where
  pub running : Open bs map w
  pub on_floor : running.run.is.floor ≡ held_by p
  pub innermost : Frame
  pub around : List Frame
  pub frames_are : (process running.run.is p).frames ≡ innermost ∷ around
  pub nested : is_empty around ≡ false

-- and stands then at the action that named it.
pub record Back (bs map w : List ℕ) (p : ℕ) : Type 0 where
  pub action : Action
  pub acting : Acting bs map w p action
