-- What has ended stays ended, and a journal that is not met changes nothing.
-- Assumes nothing.
use Rattle.std.specs.Prelude.{ℕ, zero, suc, ◌≡◌, refl, List, false}
use Rattle.std.proofs.Common.{sym, ap, ne_eqb}
use Rattle.semantics.specs.Words.{fails}
use Rattle.semantics.specs.Numbers as No
use Rattle.semantics.specs.Model.{Model}
use Rattle.semantics.specs.State.{State}
use Rattle.semantics.specs.Walk.{Line}
use Rattle.semantics.specs.Step.{step}
use Rattle.semantics.specs.Run.{Answer, CLOSED, IDLE, FAULT, stopped, before, is_closed, is_idle}
use Rattle.semantics.specs.Run.{goes_on}
use Rattle.semantics.specs.Run.{Room, run, no_end}
use Rattle.promises.specs.Laws.{no_way}
use Rattle.promises.specs.Answers.{run_why, Why, was_closed, was_idle, at_limit, at_fault, no_room}
use Rattle.promises.specs.Ends.{again}

-- A run from t stops at once, whatever its limit and room.
abbrev StopsAt : Model → Answer → State → Type 0
StopsAt m a t = (n : ℕ) (r : Room) → run m n r t ≡ stopped (again a n) t

closed_stops : (m : Model) (t : State) → before t ≡ is_closed → StopsAt m CLOSED t
unfolding run
closed_stops m t e zero r = rw (run, e) refl
closed_stops m t e (suc n) r = rw (run, e) refl

idle_stops : (m : Model) (t : State) → before t ≡ is_idle → StopsAt m IDLE t
unfolding run
idle_stops m t e zero r = rw (run, e) refl
idle_stops m t e (suc n) r = rw (run, e) refl

fault_stops : (m : Model) (t : State) (k : ℕ) → before t ≡ goes_on → step m t ≡ fails k → (k ≡ No.STATE → ⊥)
    → StopsAt m (FAULT k) t
unfolding run
fault_stops m t k e f g zero r = rw (run, e, ne_eqb k No.STATE g) refl
fault_stops m t k e f g (suc n) r = rw (run, e, f) refl

why_stops : {m : Model} {n : ℕ} {r : Room} {a : Answer} {k : ℕ} {ls : List Line} {t : State} → Why m n r a k ls t →
    no_end a ≡ false → (a ≡ FAULT No.STATE → ⊥) → StopsAt m a t
why_stops {m = m} {t = t} (was_closed e) f g = closed_stops m t e
why_stops {m = m} {t = t} (was_idle e) f g = idle_stops m t e
why_stops (at_limit e h) f g = no_way (sym f)
why_stops {m = m} {t = t} (at_fault {j = j} e h i) f g = fault_stops m t j e i (λ z. g (ap FAULT z))
why_stops (no_room e h i j) f g = no_way (sym f)

-- After an end (CLOSED, IDLE, or a fault other than 30) no run makes a step, and each answers the same again.
pub end_stays : (m : Model) (n : ℕ) (r : Room) (s : State) → no_end (run m n r s).answer ≡ false
    → ((run m n r s).answer ≡ FAULT No.STATE → ⊥) → StopsAt m (run m n r s).answer (run m n r s).state
end_stays m n r s e g = why_stops (run_why m n r s) e g
