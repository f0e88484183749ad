-- A run in the engine's hands: how large its state is, and the process on its floor. Assumes nothing.
use Rattle.std.specs.Prelude.{ℕ, ◌≤◌, ◌<◌, ◌≡◌, List, length}
use Rattle.std.proofs.Common.{arith, ◌∙◌, ap}
use Rattle.semantics.specs.Numbers as No
use Rattle.semantics.specs.State.{State, held_by, process}
use Rattle.promises.specs.Laws.{once, once_self}
use Rattle.promises.specs.Sound.{on_floor, Fine}
use Rattle.promises.specs.Moves.{hand_fine}
use Rattle.base_numbers.specs.Row as Row
use Rattle.row_work.specs.Work.{Sized}
use Rattle.row_work.specs.Sized.{sound_sized}
use Rattle.row_work.specs.Shown.{work_long}
use Rattle.row_process.specs.Process.{Shown, Lives}
use Rattle.row_process.specs.Alive.{hand_lives}
use Rattle.act_floor.specs.Running.{Runs}

-- A RUN.
module _ {w : List ℕ} (r : Runs w) where
  pub is_sized : Sized r.run.is
  is_sized = sound_sized r.run.model r.run.fits r.run.nested r.run.few_rounds r.run.is r.sound

  abbrev pub shown : {P : State → Type 0} → P r.run.is → Shown w P
  shown g = record { is = r.run.is; shows = r.run.shows; sized = is_sized; given = g }

  pub run_long : length w ≡ Row.WORDS
  run_long = ap length r.run.shows ∙ work_long r.run.is is_sized

  -- THE FLOOR is had by the process in place p.
  module _ (p : ℕ) (e : r.run.is.floor ≡ held_by p) where
    abbrev pub hand : ℕ → ℕ
    hand k = on_floor k r.run.is.floor

    pub hand_is : (k : ℕ) → hand k ≡ once k p
    hand_is k = ap (on_floor k) e

    pub in_hand : 1 ≤ hand p
    in_hand = let a = hand_is p in let b = once_self p in omega arith

    pub lives : Lives p r.run.is
    lives = hand_lives r.sound p in_hand

    pub low : p < No.places
    low = lives.in_places

    pub fine : Fine r.run.model r.run.is.last (process r.run.is p)
    fine = hand_fine r.sound p in_hand
