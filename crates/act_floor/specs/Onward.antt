-- The process on the floor at its action x, and past it. Assumes nothing.
use Rattle.std.specs.Prelude.{ℕ, ◌+◌, ◌≤◌, ◌<◌, ◌≡◌, refl, List, get_or}
use Rattle.std.proofs.Common.{arith, sym, ◌∙◌, ap}
use Rattle.semantics.specs.Numbers as No
use Rattle.semantics.specs.Model.{Action, Model}
use Rattle.semantics.specs.State.{State, Process, process, put, past}
use Rattle.promises.specs.Laws.{once}
use Rattle.promises.specs.Fit.{ActFit}
use Rattle.promises.specs.Sound.{al, slaved, Fine, Held}
use Rattle.promises.specs.Moves.{hand_alive}
use Rattle.promises.specs.Parts.{fit_at}
use Rattle.promises.specs.Takes.{goes_past}
use Rattle.row_work.specs.Work.{work_of, FloorSized, Sized, Doing}
use Rattle.row_work.specs.Underway as Underway
use Rattle.row_process.specs.Process.{Shown, Lives, changed}
use Rattle.row_process.specs.Put.{put_there, changed_twice}
use Rattle.row_process.specs.Alive.{hand_lives}
use Rattle.act_floor.specs.Running.{On}
use Rattle.act_floor.specs.Floor as Floor

module _ {w : List ℕ} {p : ℕ} {x : Action} (v : On w p x) where
  abbrev pub m : Model
  m = v.running.run.model

  abbrev pub s : State
  s = v.running.run.is

  abbrev pub q : Process
  q = process s p

  abbrev pub hand : ℕ → ℕ
  hand = Floor.hand v.running p v.on_floor

  -- AS IT STANDS.
  pub is_sized : Sized s
  is_sized = Floor.is_sized v.running

  abbrev pub shown : {P : State → Type 0} → P s → Shown w P
  shown g = Floor.shown v.running g

  pub still_sized : (t : State) {z y : ℕ → ℕ} → Held m t t.blocked z y → FloorSized t.floor → Sized t
  still_sized t h o = Underway.still_sized v.running.run t h o

  pub hand_is : (k : ℕ) → hand k ≡ once k p
  hand_is = Floor.hand_is v.running p v.on_floor

  pub in_hand : 1 ≤ hand p
  in_hand = Floor.in_hand v.running p v.on_floor

  pub alive : al q.frames ≡ 1
  alive = hand_alive v.running.sound p in_hand

  pub lives : Lives p s
  lives = Floor.lives v.running p v.on_floor

  pub low : p < No.places
  low = Floor.low v.running p v.on_floor

  pub fine : Fine m s.last q
  fine = Floor.fine v.running p v.on_floor

  pub action_fits : ActFit m x
  action_fits = fit_at m v.running.run.fits q.frames x v.stands

  -- PAST THE ACTION as r, with more places in hand, z in all, and y of each resource.
  pub passes_as : {z y : ℕ → ℕ} (r : Process) → Fine m s.last r → r.frames ≡ q.frames → r.number ≡ q.number
      → ((k : ℕ) → slaved k r.slaves + z k ≡ slaved k q.slaves + hand k)
      → ((j : ℕ) → get_or r.held j 0 + y j ≡ get_or q.held j 0) → Held m (put p (past r) s) s.blocked z y
  passes_as r f e n zs ys =
      goes_past m s v.running.sound p in_hand r x v.stands f e n zs (λ j. let a = ys j in omega arith)

  -- Past it unchanged.
  abbrev pub after_it : State
  after_it = put p (past q) s

  pub passes : Held m after_it s.blocked hand (λ j. 0)
  passes = passes_as q fine refl refl (λ k. refl) (λ j. omega arith)

  pub after_sized : Sized after_it
  after_sized = still_sized after_it passes is_sized.floor_ok

  abbrev pub passing_as : {w₁ : List ℕ} → w₁ ≡ work_of s → Doing w₁ (Lives p) (changed p past)
  passing_as e = record { is = s; shows = e; before = is_sized; after = after_sized; given = lives }

  abbrev pub passing : Doing w (Lives p) (changed p past)
  passing = passing_as v.running.run.shows

  -- PAST THE ACTION, changed in another part than its slaves, with y of each resource in hand.
  pub passes_so : {y : ℕ → ℕ} (r : Process) → Fine m s.last r → r.frames ≡ q.frames → r.number ≡ q.number
      → r.slaves ≡ q.slaves → ((j : ℕ) → get_or r.held j 0 + y j ≡ get_or q.held j 0)
      → Held m (put p (past r) s) s.blocked hand y
  passes_so r f e n o ys = passes_as r f e n (λ k. ap (λ l. slaved k l + hand k) o) ys

  -- Whoever is past it still lives there.
  pub alive_after : Lives p after_it
  alive_after = hand_lives {s = after_it} passes p in_hand

  pub there_after : process after_it p ≡ past q
  there_after = put_there s p (past q) v.running.sound.places_64 low

  -- Another change of it behind that, which could have come first.
  module _ (f : Process → Process) (same : past (f q) ≡ f (past q)) where
    pub then_is : changed p f after_it ≡ put p (past (f q)) s
    then_is = changed_twice s p past f v.running.sound.places_64 low ∙ ap (λ r. put p r s) (sym same)

    abbrev pub then_doing : {y : ℕ → ℕ} → Held m (put p (past (f q)) s) s.blocked hand y → {w₁ : List ℕ}
        → w₁ ≡ work_of after_it → {P : State → Type 0} → P after_it → Doing w₁ P (changed p f)
    then_doing h e g =
        record {
          is = after_it;
          shows = e;
          before = after_sized;
          after = rw then_is (still_sized (put p (past (f q)) s) h is_sized.floor_ok);
          given = g;
        }
