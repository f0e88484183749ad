-- The states between the changes of a HOLD, PRIO or LSET: each is shown, and is what the next change asks for. Assumes nothing.
use Prim.Native.Nat.{ℕ, ◌≤◌, ◌<◌}
use native.Mathlib.Omega.{arith}
use mathlib.Core.Path.{◌≡◌, refl, ◌∙◌, ap}
use mathlib.Core.List.{List}
use lib.ListN.{length, set}
use Rattle.semantics.specs.Numbers as No
use Rattle.semantics.specs.Numbers.{lowest}
use Rattle.semantics.specs.Model.{Expr, Action, LSET}
use Rattle.semantics.specs.State.{State, Process, empty, process, put, wake, past, with_floor, with_priority, with_locals}
use Rattle.promises.specs.Fit.{I32}
use Rattle.promises.specs.Sound.{Below, Held}
use Rattle.promises.specs.Parts.{priority_ok, fine_local, fine_priority}
use Rattle.promises.specs.Takes.{wakes_up}
use Rattle.base_numbers.specs.Code as Code
use Rattle.base_i32.specs.Code.{value_of, code, larger}
use Rattle.base_i32.specs.Laws.{value_of-code, code_fits, value_fits}
use Rattle.row_work.specs.Work.{work_of, Sized, Doing}
use Rattle.row_process.specs.Process.{Lives, Coded, HasLocal, changed}
use Rattle.row_process.specs.Alive.{hand_lives}
use Rattle.act_floor.specs.Running.{On}
use Rattle.act_floor.specs.Onward.{m, s, q, hand, still_sized, hand_is, in_hand, fine, action_fits}
use Rattle.act_floor.specs.Onward.{after_it, passes, after_sized, passes_so, alive_after, there_after, then_is, then_doing}
use Rattle.row_lists.specs.Lists.{Any}

module _ {w : List ℕ} {p : ℕ} {x : Action} (v : On w p x) where
  -- THE PRIORITY becomes the value of code c, but never below the lowest: that of code d.
  module _ (c d : ℕ) (fits : c < Code.CODES) (e : d ≡ code (larger (value_of Code.LOWEST) (value_of c))) where
    abbrev pub raised : Process → Process
    raised r = with_priority r (value_of d)

    right : I32 (larger lowest (value_of c)) × Below lowest (larger lowest (value_of c))
    right = priority_ok (value_of c) (value_fits c fits)

    code_is : d ≡ code (larger lowest (value_of c))
    unfolding value_of
    code_is = e

    value_is : value_of d ≡ larger lowest (value_of c)
    value_is = ap value_of code_is ∙ value_of-code (larger lowest (value_of c)) right.0

    pub raises : Held (m v) (put p (past (raised (q v))) (s v)) (s v).blocked (hand v) (λ j. 0)
    raises =
        passes_so v (raised (q v))
        (fine_priority (fine v) (value_of d) (rw value_is right.0) (rw value_is right.1))
        refl refl refl (λ j. omega arith)

    pub raised_first : past (raised (q v)) ≡ raised (past (q v))
    unfolding past
    raised_first = refl

    pub is_coded : Coded p d (after_it v)
    is_coded = record { lives = alive_after v; low = rw code_is (code_fits (larger lowest (value_of c)) right.0) }

    abbrev pub raising : {w₁ : List ℕ} → w₁ ≡ work_of (after_it v) → Doing w₁ (Coded p d) (changed p raised)
    raising k = then_doing v raised raised_first raises k is_coded

    pub raised_is : work_of (changed p raised (after_it v))
        ≡ work_of (put p (past (with_priority (q v) (larger lowest (value_of c)))) (s v))
    raised_is =
        ap work_of (then_is v raised raised_first)
        ∙ ap (λ z. work_of (put p (past (with_priority (q v) z)) (s v))) value_is

  -- THE FLOOR is left, and the process enters at time t.
  abbrev pub floorless : State
  floorless = with_floor (after_it v) empty

  pub floorless_sized : Sized floorless
  floorless_sized = still_sized v floorless (passes v) tt

  abbrev pub leaving : {w₁ : List ℕ} → w₁ ≡ work_of (after_it v) → Doing w₁ Any (λ t. with_floor t empty)
  leaving e =
      record { is = after_it v; shows = e; before = after_sized v; after = floorless_sized; given = tt }

  pub alive_floorless : Lives p floorless
  alive_floorless = hand_lives {s = floorless} (passes v) p (in_hand v)

  pub awake_sized : (t : ℕ) → (s v).clock ≤ t → t ≤ No.latest → Sized (wake t p floorless)
  unfolding wake
  awake_sized t a b =
      still_sized v (wake t p floorless)
      (wakes_up (m v) floorless {z' = λ k. 0} (passes v) t p a b
      (λ k. let h = hand_is v k in omega arith)) tt

  abbrev pub waking : {w₁ : List ℕ} → w₁ ≡ work_of floorless → (t : ℕ) → (s v).clock ≤ t → t ≤ No.latest
      → Doing w₁ (Lives p) (λ u. wake t p u)
  waking e t a b =
      record { is = floorless; shows = e; before = floorless_sized; after = awake_sized t a b; given = alive_floorless }

-- A LOCAL becomes the value of code c.
module _ {w : List ℕ} {p : ℕ} {i : ℕ} {e : Expr} (v : On w p (LSET i e)) (c : ℕ) (fits : c < Code.CODES) where
  abbrev pub stored : Process → Process
  stored r = with_locals r (set r.locals i (value_of c))

  pub stored_first : past (stored (q v)) ≡ stored (past (q v))
  unfolding past
  stored_first = refl

  pub stores : Held (m v) (put p (past (stored (q v))) (s v)) (s v).blocked (hand v) (λ j. 0)
  stores =
      passes_so v (stored (q v)) (fine_local (fine v) i (value_of c) (value_fits c fits))
      refl refl refl (λ j. omega arith)

  has_local : i < length (process (after_it v) p).locals
  unfolding past
  has_local =
      let a = (action_fits v).0 in
      let b = (fine v).locals_many in
      rw (there_after v) (omega arith)

  pub local_there : HasLocal p i c (after_it v)
  local_there = record { lives = alive_after v; there = has_local; low = fits }

  abbrev pub storing : {w₁ : List ℕ} → w₁ ≡ work_of (after_it v) → Doing w₁ (HasLocal p i c) (changed p stored)
  storing k = then_doing v stored stored_first stores k local_there

  pub stored_is : work_of (changed p stored (after_it v)) ≡ work_of (put p (past (stored (q v))) (s v))
  stored_is = ap work_of (then_is v stored stored_first)
