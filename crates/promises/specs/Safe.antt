-- A step out of a sound state that goes on never faults with 20: its faults are 21 to 29.
-- Assumes nothing.
use Prim.Native.Nat.{ℕ, zero, suc, ◌≤◌, ◌<◌}
use Rattle.std.proofs.Common.{arith, sym, ltb-true}
use Rattle.std.specs.Prelude.{◌≡◌, Bool, true, false, ◌&&◌, ltb, ℤ, neg_ℤ, ◌+ℤ◌, ◌-ℤ◌, ◌*ℤ◌, if◌then◌else◌}
use Rattle.std.proofs.Math.Path.{refl, ap}
use mathlib.Core.List.{List, [], ◌∷◌}
use Rattle.semantics.specs.Words.{Outcome, ok, fails, ◌>>=◌, ◌>>◌, need, is_empty}
use Rattle.semantics.specs.Model.{Expr, literal, global, local, add, subtract, multiply, lesser, greater, negate, the_clock, draw}
use Rattle.semantics.specs.Model.{Model, Action, HOLD, PRIO, TRACE, SET, LSET, DO, PUTR, PUTB, PUTS, BECOME, REQ, TRY, WHILE}
use Rattle.semantics.specs.Model.{START, CLOSE}
use Rattle.semantics.specs.State.{State, Process, Frame, Event, Notice, wakes, returns_r, returns_b, Floor, empty, held_by, process}
use Rattle.semantics.specs.State.{with_floor, with_events, at_clock}
use Rattle.semantics.specs.Value.{is_i32, in_range, Drawing, of_two, eval}
use Rattle.semantics.specs.Claim.{offers, Choice, choice}
use Rattle.semantics.specs.Walk.{Next}
use Rattle.semantics.specs.Step as Step
use Rattle.semantics.specs.Step.{ends, exhausted, hold, prio, set_global, set_local, do_times, notify, putr, putb, become, puts}
use Rattle.semantics.specs.Step.{start, request, while, trace, close, act, moves, occurs, next, step}
use Rattle.semantics.specs.Run.{Before, is_closed, is_idle, goes_on, before}
use Rattle.promises.specs.Laws.{and-true, if_has, not_ok, once_self}
use Rattle.promises.specs.Sound.{al, on_floor, noticed, in_events, Sound}
use Rattle.promises.specs.Parts.{moves_has}
use Rattle.promises.specs.Takes.{choice_has}

pub data Safe {A : Type 0} : Outcome A → Type 0 where
  safe : {a : A} → Safe (ok a)
  above : {n : ℕ} → 20 < n → n < 30 → Safe (fails n)

-- A fault that is safe is one of these.
pub safe_fault : {A : Type 0} {o : Outcome A} {k : ℕ} → Safe o → o ≡ fails k → (20 < k) × (k < 30)
safe_fault safe e = not_ok (sym e)
safe_fault {k = k} (above {n = n} l h) e = let z : n ≡ k = cc in (omega arith, omega arith)

-- OUTCOMES. The number of a need computes, and so does that it is one of 21 to 29.
safe_bind : {A B : Type 0} {o : Outcome A} {f : A → Outcome B} → Safe o → ((a : A) → Safe (f a)) → Safe (◌>>=◌ o f)
unfolding ◌>>=◌
safe_bind (safe {a}) h = h a
safe_bind (above l g) h = above l g

safe_need : {B : Type 0} (k : ℕ) (b : Bool) {r : Outcome B}
    → ltb 20 k && ltb k 30 ≡ true → Safe r → Safe (◌>>◌ (need k b) r)
unfolding ◌>>◌ need
safe_need k true e h = h
safe_need k false e h = let f = and-true (ltb 20 k) (ltb k 30) e in above (ltb-true 20 k f.0) (ltb-true k 30 f.1)

-- AN EXPRESSION gives 21 at most.
safe_range : (v : ℤ) → Safe (in_range v)
safe_range v = safe_need 21 (is_i32 v) refl safe

module _ (m : Model) (s : State) (q : Process) where
  of_two_safe : (f : ℤ → ℤ → Outcome ℤ) (a b : Drawing) → ((x y : ℤ) → Safe (f x y)) → ((d : List ℕ) → Safe (a d))
      → ((d : List ℕ) → Safe (b d)) → (d : List ℕ) → Safe (of_two f a b d)
  of_two_safe f a b h i j d = safe_bind (i d) λ x. safe_bind (j x.seeds) λ y. safe_bind (h x.value y.value) λ v. safe

  eval_safe : (e : Expr) (d : List ℕ) → Safe (eval m s q e d)
  unfolding eval
  eval_safe (literal v) d = safe
  eval_safe (global i) d = safe
  eval_safe (local i) d = safe
  eval_safe (add a b) d = of_two_safe _ _ _ (λ x y. safe_range (x +ℤ y)) (eval_safe a) (eval_safe b) d
  eval_safe (subtract a b) d = of_two_safe _ _ _ (λ x y. safe_range (x -ℤ y)) (eval_safe a) (eval_safe b) d
  eval_safe (multiply a b) d = of_two_safe _ _ _ (λ x y. safe_range (x *ℤ y)) (eval_safe a) (eval_safe b) d
  eval_safe (lesser a b) d = of_two_safe _ _ _ (λ x y. safe) (eval_safe a) (eval_safe b) d
  eval_safe (greater a b) d = of_two_safe _ _ _ (λ x y. safe) (eval_safe a) (eval_safe b) d
  eval_safe (negate a) d = safe_bind (eval_safe a d) λ x. safe_bind (safe_range (neg_ℤ x.value)) λ v. safe
  eval_safe the_clock d = safe
  eval_safe (draw i) d = safe

-- AN ACTION of the process q in place p.
module _ (m : Model) (s : State) (p : ℕ) where
  abbrev q : Process
  q = process s p

  do_safe : (n b : ℕ) → Safe (do_times m s p n b)
  unfolding do_times
  do_safe zero b = safe
  do_safe (suc n) b = safe

  abbrev chosen : Action → Choice
  chosen a = choice m s (Step.in_front m s p) (offers a)

  act_safe : (a : Action) → Safe (act m s p a)
  unfolding act hold prio trace set_global set_local putr putb notify puts become start request while close
  act_safe (HOLD x) = safe_bind (eval_safe m s q x s.seeds) λ v. safe_need _ _ refl (safe_need _ _ refl safe)
  act_safe (PRIO x) = safe_bind (eval_safe m s q x s.seeds) λ v. safe
  act_safe (TRACE x) = safe_bind (eval_safe m s q x s.seeds) λ v. safe
  act_safe (SET i x) = safe_bind (eval_safe m s q x s.seeds) λ v. safe
  act_safe (LSET i x) = safe_bind (eval_safe m s q x s.seeds) λ v. safe
  act_safe (DO n b) = do_safe n b
  act_safe (PUTR i n) = safe_need _ _ refl (safe_need _ _ refl safe)
  act_safe (PUTB i n) = safe_need _ _ refl safe
  act_safe (PUTS i n) = safe_need _ _ refl safe
  act_safe (BECOME i) = safe
  act_safe (REQ c) = choice_has Safe (chosen (REQ c)) (λ r g. safe) (λ i o g. safe)
  act_safe (TRY bs) = choice_has Safe (chosen (TRY bs)) (λ r g. safe) (λ i o g. safe)
  act_safe (WHILE b c) = choice_has Safe (chosen (WHILE b c)) (λ r g. safe) (λ i o g. safe)
  act_safe (START c t h) = safe_need _ _ refl (safe_need _ _ refl (safe_need _ _ refl safe))
  act_safe CLOSE = safe

  -- A process that lives is in a block.
  exhausted_safe : (fs : List Frame) → 1 ≤ al fs → Safe (exhausted m s p fs)
  unfolding exhausted ends
  exhausted_safe [] l = absurd (omega arith)
  exhausted_safe (f ∷ fs) l =
      if_has Safe (ltb 1 f.rounds) (λ e. safe)
      (λ e. if_has Safe (is_empty fs) (λ g. safe_need _ _ refl safe) (λ g. safe))

-- Closed and idle are no going on.
pub idle_stops : (c : Bool) → ◌≡◌ {A = Before} (if c then is_closed else is_idle) goes_on → ⊥
idle_stops true e = let z : ◌≡◌ {A = ℕ} 0 1 = cc in omega arith
idle_stops false e = let z : ◌≡◌ {A = ℕ} 0 1 = cc in omega arith

module _ (m : Model) where
  moves_safe : (s : State) (p : ℕ) → 1 ≤ al (process s p).frames → Safe (moves m s p)
  moves_safe s p l =
      moves_has Safe m s p (λ e. exhausted_safe m s p (process s p).frames l)
      (λ a e. act_safe m s p a)

  -- THE FIRST of the event list.
  occurs_safe : (s : State) (n : Notice) → ((p : ℕ) → noticed p n ≤ al (process s p).frames) → Safe (occurs m s n)
  unfolding occurs
  occurs_safe s (wakes p) l =
      moves_safe (with_floor s (held_by p)) p (let a = l p in let b = once_self p in omega arith)
  occurs_safe s (returns_r i n g) l = safe
  occurs_safe s (returns_b i n g) l = safe_need _ _ refl safe

  -- A STEP. Whoever has the floor, or is first, is listed, and so lives.
  pub step_safe : (s : State) → Sound m s → before s ≡ goes_on → Safe (step m s)
  unfolding step next
  step_safe s h b = go s.floor s.events refl refl
    where
      go : (f : Floor) (es : List Event) → s.floor ≡ f → s.events ≡ es
          → Safe {A = Next} (elim f [ held_by p ↦ moves m s p | empty ↦ next m s es ])
      go (held_by p) es e g =
          moves_safe s p (let a = h.in_one p in let l = once_self p in let c = ap (on_floor p) e in omega arith)
      go empty [] e g = absurd (idle_stops s.closed (rw (e, g) at b))
      go empty (x ∷ xs) e g =
          occurs_safe (with_events (at_clock s x.time) xs) x.notice
          (λ p. let a = h.in_one p in let c = ap (in_events p) g in omega arith)
