-- Laws on a run: one step of it, where it halts, and what was made before. Assumes nothing.
use Rattle.std.specs.Prelude.{if◌then◌else◌}
use Prim.Native.Nat.{ℕ, zero, suc, ◌+◌, ◌-◌, ◌≤◌, ◌<◌}
use native.Mathlib.Omega.{arith}
use native.Mathlib.Nat.{zero-add}
use mathlib.Core.Path.{◌≡◌, refl, sym}
use mathlib.Core.List.{List, [], ◌++◌, append_assoc}
use mathlib.Core.Bool.{Bool, true, false}
use lib.Dec.{leb}
use borrow.Author.Tests.{leb-true}
use lib.ListN.{length}
use Rattle.semantics.specs.Words.{Outcome, ok, fails}
use Rattle.semantics.specs.Numbers as No
use Rattle.semantics.specs.Model.{Model}
use Rattle.semantics.specs.State.{State}
use Rattle.semantics.specs.Walk.{Line, Next}
use Rattle.semantics.specs.Step.{step}
use Rattle.semantics.specs.Run as definition
use Rattle.semantics.specs.Run.{CLOSED, IDLE, LIMIT, FAULT, stopped, further, Before, is_closed, is_idle, goes_on, before, run}
use Rattle.semantics.specs.Run.{room_for}
use Rattle.promises.specs.Laws.{not_ok}
use Rattle.promises.specs.Safe.{Safe, above}
use Rattle.run_limit.specs.Halts.{halted_by}
use Rattle.run_limit.specs.Fitted.{fitted}

-- ONE STEP of a run that goes on, where there is room for n lines.
abbrev pub goes_by : Outcome Next → State → (Next → definition.Ran) → definition.Ran
goes_by (ok x) s f = further x (f x)
goes_by (fails k) s f = stopped (FAULT k) s

pub run_goes : (m : Model) (k n : ℕ) (s : State) → before s ≡ goes_on → run m (suc k) (room_for n) s
    ≡ goes_by (fitted n (step m s)) s (λ x. run m k (room_for (n - length x.lines)) x.state)
unfolding run
run_goes m k n s e = rw (run, e) (by (step m s))
  where
    onward : Next → definition.Ran
    onward x = run m k (room_for (n - length x.lines)) x.state

    tested : (b : Bool) (x : Next)
        → ◌≡◌ {A = definition.Ran} (elim b [ true ↦ further x (onward x) | false ↦ stopped (FAULT No.JOURNAL) s ])
        (goes_by (if b then ok x else fails No.JOURNAL) s onward)
    tested true x = refl
    tested false x = refl

    by : (o : Outcome Next)
        → ◌≡◌ {A = definition.Ran}
        (elim o [
          | fails k ↦ stopped (FAULT k) s
          | ok x ↦ elim (leb (length x.lines) n) [ true ↦ further x (onward x) | false ↦ stopped (FAULT No.JOURNAL) s ]
        ]) (goes_by (fitted n o) s onward)
    by (ok x) = tested (leb (length x.lines) n) x
    by (fails k) = refl

-- Where no step is made: it is closed or idle, or no step is left.
pub run_halts : (m : Model) (k n : ℕ) (s : State) → (before s ≡ goes_on → k ≡ 0)
    → run m k (room_for n) s ≡ stopped (halted_by (before s)) s
unfolding run
run_halts m k n s h = left k h
  where
    by : (b : Before) {x : definition.Ran} → (b ≡ goes_on → x ≡ stopped LIMIT s)
        → ◌≡◌ {A = definition.Ran} (elim b [ is_closed ↦ stopped CLOSED s | is_idle ↦ stopped IDLE s | goes_on ↦ x ])
        (stopped (halted_by b) s)
    by is_closed f = refl
    by is_idle f = refl
    by goes_on f = f refl

    left : (k : ℕ) → (before s ≡ goes_on → k ≡ 0) → run m k (room_for n) s ≡ stopped (halted_by (before s)) s
    left zero f = by (before s) (λ e. refl)
    left (suc k) f = by (before s) (λ e. absurd (let z = f e in omega arith))

-- WHETHER the step was made.
pub fitted-ok : (n : ℕ) (o : Outcome Next) (x : Next) → fitted n o ≡ ok x → (o ≡ ok x) × (length x.lines ≤ n)
fitted-ok n (ok y) x e = tested (leb (length y.lines) n) refl e
  where
    tested : (b : Bool) → leb (length y.lines) n ≡ b → ◌≡◌ {A = Outcome Next} (if b then ok y else fails No.JOURNAL) (ok x)
        → (ok y ≡ ok x) × (length x.lines ≤ n)
    tested true l f = let z : y ≡ x = cc in (f, rw (← z) (leb-true (length y.lines) n l))
    tested false l f = not_ok f
fitted-ok n (fails k) x e = not_ok e

pub fitted-fails : (n : ℕ) (o : Outcome Next) (q : ℕ) → Safe o → fitted n o ≡ fails q → 0 < q
fitted-fails n (ok y) q a e = tested (leb (length y.lines) n) e
  where
    tested : (b : Bool) → ◌≡◌ {A = Outcome Next} (if b then ok y else fails No.JOURNAL) (fails q) → 0 < q
    tested true f = not_ok (sym f)
    tested false f = let z : No.JOURNAL ≡ q = cc in omega arith
fitted-fails n (fails k) q (above l g) e = let z : k ≡ q = cc in omega arith

-- AFTER k STEPS that wrote the lines ls: r is what is left of the run.
abbrev pub added : ℕ → List Line → definition.Ran → definition.Ran
added k ls r = record { answer = r.answer; steps = k + r.steps; state = r.state; lines = ls ++ r.lines }

pub added_none : (r : definition.Ran) → r ≡ added 0 [] r
added_none r = rw zero-add

pub added_one : (k : ℕ) (ls : List Line) (x : Next) (r : definition.Ran)
    → added k ls (further x r) ≡ added (k + 1) (ls ++ x.lines) r
added_one k ls x r =
    let e : k + suc r.steps ≡ k + 1 + r.steps = omega arith in
    rw (append_assoc, e)
