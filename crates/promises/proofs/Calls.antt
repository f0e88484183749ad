-- Calls on an open run. From fresh on, one that only calls have moved is sound before each of them, so that a call is the run,
-- and 20 is never answered. One that has ended stays ended.
-- Assumes nothing.
use Rattle.std.specs.Prelude.{ℕ, ◌≡◌, List, [], ◌∷◌, Bool}
use Rattle.std.proofs.Common.{arith, sym, ap, ◌∙◌}
use Rattle.std.proofs.Math.Path.{refl}
use Rattle.std.proofs.Math.Bool.{true, false}
use Rattle.semantics.specs.Numbers as No
use Rattle.semantics.specs.Model.{Model}
use Rattle.semantics.specs.Decode.{Checked, refused, accepted, decode}
use Rattle.semantics.specs.State.{State, fresh}
use Rattle.semantics.specs.Walk.{Line}
use Rattle.semantics.specs.Sound.{sound_in, sound}
use Rattle.semantics.specs.Run.{Answer, FAULT, Ran, Room, Ask, stopped, run, call_in, call, no_end, leaves}
use Rattle.promises.specs.Laws.{no_way}
use Rattle.promises.specs.Fit.{Fit}
use Rattle.promises.specs.Accepted.{accepted_fit}
use Rattle.promises.specs.Sound.{Sound}
use Rattle.promises.proofs.Decides.{sound_yes, sound_back}
use Rattle.promises.proofs.Stays.{step_ok}
use Rattle.promises.proofs.FreshSound.{fresh_sound}
use Rattle.promises.specs.Safe.{safe_fault, step_safe}
use Rattle.promises.specs.Answers.{run_keeps, Why, was_closed, was_idle, at_limit, at_fault, no_room, run_why, call_20}
use Rattle.promises.specs.Ends.{again, again_20}
use Rattle.promises.proofs.Ends.{end_stays}

-- A step that faults out of a sound state faults above 20.
why_not_20 : {m : Model} {n : ℕ} {r : Room} {a : Answer} {k : ℕ} {ls : List Line} {t : State} → Sound m t → Why m n r a k ls t
    → a ≡ FAULT No.STATE → ⊥
why_not_20 h (was_closed b) e = let z : ◌≡◌ {A = ℕ} 0 1 = cc in omega arith
why_not_20 h (was_idle b) e = let z : ◌≡◌ {A = ℕ} 0 1 = cc in omega arith
why_not_20 h (at_limit b l) e = let z : ◌≡◌ {A = ℕ} 0 1 = cc in omega arith
why_not_20 {m = m} {t = t} h (at_fault {j = j} b l f) e =
    let z : j ≡ 20 = cc in let a = safe_fault (step_safe m t h b) f in omega arith
why_not_20 h (no_room b l f g) e = let z : ◌≡◌ {A = ℕ} 30 20 = cc in omega arith

-- A run out of a sound state leaves a sound one.
pub run_sound : (m : Model) → Fit m → (n : ℕ) (r : Room) (s : State) → Sound m s → Sound m (run m n r s).state
run_sound m fit =
    run_keeps m (λ n r s y. Sound m s → Sound m y.state) (λ n r s a h. h)
    (λ n r s x y b g l ih h. ih (step_ok m fit s h x g))

module _ (bs : List ℕ) (m : Model) (e : decode bs ≡ accepted m) where
  fit : Fit m
  fit = accepted_fit bs m e

  pub call_is : (a : Ask) (s : State) → Sound m s → call bs a s ≡ run m a.limit a.room s
  unfolding call call_in
  call_is a s h = rw (call, e, call_in, sound_back m s h) refl

  call_sound : (a : Ask) (s : State) → Sound m s → Sound m (call bs a s).state
  call_sound a s h = rw (call_is a s h) (run_sound m fit a.limit a.room s h)

  leaves_sound : (l : List Ask) (s : State) → Sound m s → Sound m (leaves bs l s)
  leaves_sound [] s h = h
  leaves_sound (a ∷ l) s h = leaves_sound l (call bs a s).state (call_sound a s h)

  pub calls_sound : (l : List Ask) → Sound m (leaves bs l (fresh m))
  calls_sound l = leaves_sound l (fresh m) (fresh_sound m fit)

  pub call_is_run : (l : List Ask) (a : Ask)
      → call bs a (leaves bs l (fresh m)) ≡ run m a.limit a.room (leaves bs l (fresh m))
  call_is_run l a = call_is a (leaves bs l (fresh m)) (calls_sound l)

  pub never_20 : (l : List Ask) (a : Ask) → (call bs a (leaves bs l (fresh m))).answer ≡ FAULT No.STATE → ⊥
  never_20 l a f =
      let s : State = leaves bs l (fresh m) in
      why_not_20 (run_sound m fit a.limit a.room s (calls_sound l)) (run_why m a.limit a.room s)
      (ap (λ (r : Ran). r.answer) (sym (call_is_run l a)) ∙ f)

-- THE TEST of an open run with an accepted model is the test of its state.
pub sound_is : (bs : List ℕ) (m : Model) → decode bs ≡ accepted m → (s : State) → sound bs s ≡ sound_in m s
unfolding sound
sound_is bs m e s = rw (sound, e)

-- WHAT HAS ENDED STAYS ENDED, whatever run was handed in: after CLOSED, IDLE or a fault other than 30 every later call makes no
-- step, writes no line, leaves the run as it is and answers the same again.
module _ (bs : List ℕ) (a : Ask) (s : State) (f : no_end (call bs a s).answer ≡ false) where
  abbrev Stays : Ask → Type 0
  Stays b = call bs b (call bs a s).state ≡ stopped (again (call bs a s).answer b.limit) (call bs a s).state

  sound_stays : (b : Ask) (m : Model) → decode bs ≡ accepted m → Sound m s → Stays b
  sound_stays b m e h =
      let t : Sound m (run m a.limit a.room s).state = run_sound m (accepted_fit bs m e) a.limit a.room s h in
      rw (call_is bs m e a s h, call_is bs m e b (run m a.limit a.room s).state t)
      (end_stays m a.limit a.room s (rw (call_is bs m e a s h) at f) (why_not_20 t (run_why m a.limit a.room s))
      b.limit b.room)

  next_stays : (b : Ask) → Stays b
  unfolding sound
  next_stays b = by (sound bs s) refl (decode bs) refl
    where
      by : (t : Bool) → sound bs s ≡ t → (d : Checked Model) → decode bs ≡ d → Stays b
      by false z d e = rw (call_20 bs a s z, call_20 bs b s z) (ap (λ x. stopped x s) (sym (again_20 b.limit)))
      by true z (refused n p) e = no_way (rw (sound, e) at z)
      by true z (accepted m) e = sound_stays b m e (sound_yes m s (sym (sound_is bs m e s) ∙ z))

  still_left : (l : List Ask) → leaves bs l (call bs a s).state ≡ (call bs a s).state
  still_left [] = refl
  still_left (b ∷ l) = ap (λ r. leaves bs l r.state) (next_stays b) ∙ still_left l

  pub ended_stays : (l : List Ask) (b : Ask)
      → call bs b (leaves bs l (call bs a s).state)
      ≡ stopped (again (call bs a s).answer b.limit) (call bs a s).state
  ended_stays l b = ap (call bs b) (still_left l) ∙ next_stays b
