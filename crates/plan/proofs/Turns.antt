-- The turns of a run, one behind the other, are the run of a million steps. Assumes nothing.
use Rattle.std.specs.Prelude.{if◌then◌else◌}
use Prim.Native.Nat.{ℕ, zero, suc, ◌+◌, ◌-◌, ◌*◌, ◌≤◌, ◌<◌, min}
use native.Mathlib.Omega.{arith}
use mathlib.Core.Path.{◌≡◌, refl, sym, ap, ◌∙◌}
use mathlib.Core.List.{List, ◌++◌}
use mathlib.Core.Bool.{Bool, true, false, ◌&&◌}
use borrow.Author.Tests.{leb-false, ltb-false}
use lib.Dec.{ltb}
use lib.ListN.{length, length-append}
use Rattle.semantics.specs.Words.{fails}
use Rattle.semantics.specs.Numbers as No
use Rattle.semantics.specs.Model.{Model}
use Rattle.semantics.specs.State.{State}
use Rattle.semantics.specs.Walk.{Line}
use Rattle.semantics.specs.Step.{step}
use Rattle.semantics.specs.Run.{Answer, CLOSED, IDLE, LIMIT, FAULT, Ran, stopped, before, is_closed, is_idle, goes_on}
use Rattle.semantics.specs.Run.{endless, room_for, run}
use Rattle.promises.specs.Fit.{Fit}
use Rattle.promises.specs.Sound.{Sound}
use Rattle.promises.proofs.Stays.{step_ok}
use Rattle.promises.proofs.Lines.{step_lines}
use Rattle.promises.proofs.Calls.{run_sound}
use Rattle.promises.specs.Answers.{Made, none_made, one_made, run_made, made_on, behind, steps_within}
use Rattle.promises.specs.Answers.{Why, was_closed, was_idle, at_limit, at_fault, no_room, run_why}
use Rattle.plan.specs.Given.{is_limit}
use Rattle.plan.specs.Room.{LINES, TURN}

-- LINES. Steps write at most 65 each.
few_lines : {m : Model} → Fit m → {s t : State} {n : ℕ} {ls : List Line} → Sound m s → Made m s n ls t → length ls ≤ 65 * n
few_lines f h none_made = omega arith
few_lines {m} f {s} h (one_made {x = x} {n = n} {ls = ls} e g rest) =
    let a = step_lines m s h x g in
    let b = few_lines f (step_ok m f s h x g) rest in
    omega (arith, length-append x.lines ls)

-- A RUN THAT STOPS at once.
module _ (m : Model) (t : State) where
  at_closed : before t ≡ is_closed → (n : ℕ) → run m n endless t ≡ stopped CLOSED t
  unfolding run
  at_closed e zero = rw (run, e) refl
  at_closed e (suc n) = rw (run, e) refl

  at_idle : before t ≡ is_idle → (n : ℕ) → run m n endless t ≡ stopped IDLE t
  unfolding run
  at_idle e zero = rw (run, e) refl
  at_idle e (suc n) = rw (run, e) refl

  at_its_limit : before t ≡ goes_on → run m 0 endless t ≡ stopped LIMIT t
  unfolding run
  at_its_limit e = rw (run, e) refl

  at_its_fault : {k : ℕ} → before t ≡ goes_on → step m t ≡ fails k → (n : ℕ) → 0 < n → run m n endless t ≡ stopped (FAULT k) t
  unfolding run
  at_its_fault e f zero l = absurd (omega arith)
  at_its_fault e f (suc n) l = rw (run, e, f) refl

-- WHAT IS LEFT of a million steps after `steps` of them, where the last turn told `answer`: the run goes on while it is LIMIT.
abbrev pub left_over : Model → State → (answer : Answer) (steps : ℕ) → Ran
left_over m s a n = if is_limit a && ltb n No.plan_steps then run m (No.plan_steps - n) endless s else stopped a s

-- A TURN of 62 steps, or what is left, whose journal has room for 4,096 lines.
abbrev limit_at : ℕ → ℕ
limit_at n = min (No.plan_steps - n) TURN

abbrev pub turn_at : Model → State → ℕ → Ran
turn_at m s n = run m (limit_at n) (room_for LINES) s

module _ {m : Model} (f : Fit m) (n : ℕ) (under : n < No.plan_steps) where
  -- Behind it comes what is left; 30 is not met.
  left_is : {a : Answer} {k : ℕ} {ls : List Line} {t : State} → Sound m t → length ls ≤ 65 * k → k ≤ limit_at n
      → Why m (limit_at n) (room_for LINES) a k ls t
      → run m ((No.plan_steps - n) - k) endless t ≡ left_over m t a (n + k)
  left_is {t = t} h few within (was_closed e) = at_closed m t e _
  left_is {t = t} h few within (was_idle e) = at_idle m t e _
  left_is {k = k} {t = t} h few within (at_limit e all) = by (ltb (n + k) No.plan_steps) refl
    where
      by : (b : Bool) → ltb (n + k) No.plan_steps ≡ b
          → run m ((No.plan_steps - n) - k) endless t
          ≡ (if b then run m (No.plan_steps - (n + k)) endless t else stopped LIMIT t)
      by true g = ap (λ j. run m j endless t) (omega arith)
      by false g =
          let l = ltb-false (n + k) No.plan_steps g in
          let z : (No.plan_steps - n) - k ≡ 0 = omega arith in
          ap (λ j. run m j endless t) z ∙ at_its_limit m t e
  left_is {k = k} {t = t} h few within (at_fault e less g) =
      at_its_fault m t e g ((No.plan_steps - n) - k) (omega arith)
  left_is {ls = ls} {t = t} h few within (no_room {x = x} e less g over) =
      let a = step_lines m t h x g in
      let b = leb-false (length (ls ++ x.lines)) LINES over in
      absurd (omega (arith, b, length-append ls x.lines))

  pub turned : (s : State) → Sound m s
      → run m (No.plan_steps - n) endless s
      ≡ behind (turn_at m s n) (left_over m (turn_at m s n).state (turn_at m s n).answer (n + (turn_at m s n).steps))
  turned s h =
      let made = run_made m (limit_at n) (room_for LINES) s in
      let within = steps_within m (limit_at n) (room_for LINES) s in
      let k : ℕ = (turn_at m s n).steps in
      let all : No.plan_steps - n ≡ k + ((No.plan_steps - n) - k) = omega arith in
      ap (λ j. run m j endless s) all
      ∙ made_on m made ((No.plan_steps - n) - k)
      ∙ ap (behind (turn_at m s n))
      (left_is (run_sound m f (limit_at n) (room_for LINES) s h) (few_lines f h made) within
      (run_why m (limit_at n) (room_for LINES) s))
