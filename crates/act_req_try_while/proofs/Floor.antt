-- The process on the floor at the action that asks, and the states between the changes of its step. Assumes nothing.
use Prim.Native.Nat.{ℕ, ◌<◌}
use native.Mathlib.Omega.{arith}
use mathlib.Core.Path.{◌≡◌, refl, ◌∙◌, ap}
use mathlib.Core.List.{List}
use mathlib.Core.Bool.{Bool, true}
use Rattle.semantics.specs.Model.{Action}
use Rattle.semantics.specs.State.{State, empty, with_floor}
use Rattle.semantics.specs.Sound.{asking, asks_at}
use Rattle.promises.specs.Sound.{Held}
use Rattle.promises.specs.Moves.{blocks}
use Rattle.row_work.specs.Work.{work_of, Sized, Doing}
use Rattle.row_process.specs.Process.{Shown, Lives}
use Rattle.row_lists.specs.Lists.{Any, join_blocked}
use Rattle.act_floor.specs.Running.{On, on}
use Rattle.act_floor.specs.Onward.{is_sized, still_sized, hand_is, lives, low}
use Rattle.act_req_try_while.specs.Asks.{Asked, model, state, Requests, passes, enters}

-- What is blocked stands at an action that asks.
pub is_asking : {b : Bool} {x : Action} → Requests b x → asking x ≡ true
is_asking passes = refl
is_asking enters = refl

module _ {bs map w : List ℕ} {p a : ℕ} {x : Action} (v : Asked bs map w p a x) where
  abbrev pub here : On w p x
  here = on v.acting

  -- It is shown by w₁.
  abbrev pub shown : {w₁ : List ℕ} → w₁ ≡ work_of (state v) → Shown w₁ (λ t. p < 64)
  shown e = record { is = state v; shows = e; sized = is_sized here; given = low here }

  -- BLOCKED; then the floor is left.
  module _ (k : asking x ≡ true) where
    abbrev pub joined : State
    joined = join_blocked p (state v)

    joins : Held (model v) joined joined.blocked (λ k. 0) (λ j. 0)
    joins =
        blocks (state v) v.acting.running.sound p (λ k. let b = hand_is here k in omega arith)
        (ap asks_at v.acting.stands ∙ k)

    pub joined_sized : Sized joined
    joined_sized = still_sized here joined joins (is_sized here).floor_ok

    pub left_sized : Sized (with_floor joined empty)
    left_sized = still_sized here (with_floor joined empty) joins tt

    abbrev pub joining : {w₁ : List ℕ} → w₁ ≡ work_of (state v) → Doing w₁ (Lives p) (join_blocked p)
    joining e = record { is = state v; shows = e; before = is_sized here; after = joined_sized; given = lives here }

    abbrev pub leaving : {w₁ : List ℕ} → w₁ ≡ work_of joined → Doing w₁ Any (λ t. with_floor t empty)
    leaving e = record { is = joined; shows = e; before = joined_sized; after = left_sized; given = tt }
