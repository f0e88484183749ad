-- What has ended stays ended, and a journal that is not met changes nothing.
-- Assumes nothing.
use Rattle.std.specs.Prelude.{ℕ, zero, suc, ◌≡◌, refl, Bool, true, false, eqb, if◌then◌else◌}
use Rattle.std.proofs.Common.{ap}
use Rattle.semantics.specs.Words.{Outcome, ok, fails}
use Rattle.semantics.specs.Numbers as No
use Rattle.semantics.specs.Model.{Model}
use Rattle.semantics.specs.State.{State}
use Rattle.semantics.specs.Walk.{Next}
use Rattle.semantics.specs.Step.{step}
use Rattle.semantics.specs.Run.{Answer, CLOSED, IDLE, LIMIT, FAULT, Ran, stopped, further, Before, before, is_closed, is_idle}
use Rattle.semantics.specs.Run.{goes_on}
use Rattle.semantics.specs.Run.{Room, endless, fits, left, run}

-- THE ANSWER OF A LATER CALL with limit n, where a has ended the run: a again. But a step that faults is not tried at the limit,
-- and 20 comes before any step.
abbrev pub again : Answer → ℕ → Answer
again CLOSED n = CLOSED
again IDLE n = IDLE
again LIMIT n = LIMIT
again (FAULT k) zero = if eqb k No.STATE then FAULT k else LIMIT
again (FAULT k) (suc n) = FAULT k

pub again_20 : (n : ℕ) → again (FAULT No.STATE) n ≡ FAULT No.STATE
again_20 zero = refl
again_20 (suc n) = refl

-- A run that does not answer 30 is the run with endless room.
abbrev Not30 : Ran → Type 0
Not30 r = r.answer ≡ FAULT No.JOURNAL → ⊥

room_kept : (s : State) (x : Next) (b : Bool) (y z : Ran) → (Not30 y → y ≡ z) →
    Not30 (elim b as (λ c. Ran) [ true ↦ further x y | false ↦ stopped (FAULT No.JOURNAL) s ]) →
    ◌≡◌ {A = Ran} (elim b [ true ↦ further x y | false ↦ stopped (FAULT No.JOURNAL) s ]) (further x z)
room_kept s x true y z ih g = ap (further x) (ih g)
room_kept s x false y z ih g = absurd (g refl)

pub run-endless : (m : Model) (n : ℕ) (r : Room) (s : State) → Not30 (run m n r s) → run m n r s ≡ run m n endless s
unfolding run
run-endless m zero r s h = refl
run-endless m (suc n) r s h =
    by_before (before s) (λ x. run-endless m n (left x.lines r) x.state) h
  where
    on : Room → Outcome Next → Ran
    on q o =
        elim o [
          | fails k ↦ stopped (FAULT k) s
          | ok x ↦
              elim (fits x.lines q) [
                | true ↦ further x (run m n (left x.lines q) x.state)
                | false ↦ stopped (FAULT No.JOURNAL) s
              ]
        ]

    by_step : (o : Outcome Next) →
        ((x : Next) → Not30 (run m n (left x.lines r) x.state) →
        run m n (left x.lines r) x.state ≡ run m n endless x.state) →
        Not30 (on r o) → on r o ≡ on endless o
    by_step (ok x) ih g =
        room_kept s x (fits x.lines r) (run m n (left x.lines r) x.state) (run m n endless x.state) (ih x) g
    by_step (fails k) ih g = refl

    by_before : (b : Before) →
        ((x : Next) → Not30 (run m n (left x.lines r) x.state) →
        run m n (left x.lines r) x.state ≡ run m n endless x.state) →
        Not30 (elim b as (λ c. Ran) [ is_closed ↦ stopped CLOSED s | is_idle ↦ stopped IDLE s | goes_on ↦ on r (step m s) ]) →
        ◌≡◌ {A = Ran} (elim b [ is_closed ↦ stopped CLOSED s | is_idle ↦ stopped IDLE s | goes_on ↦ on r (step m s) ])
        (elim b [ is_closed ↦ stopped CLOSED s | is_idle ↦ stopped IDLE s | goes_on ↦ on endless (step m s) ])
    by_before is_closed ih g = refl
    by_before is_idle ih g = refl
    by_before goes_on ih g = by_step (step m s) ih g
