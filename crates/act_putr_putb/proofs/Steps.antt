-- A PUTR or a PUTB is the definition's: what the work then holds is what it ought to. Assumes nothing.
use Prim.Native.Nat.{ℕ, ◌≤◌, ◌<◌}
use mathlib.Core.Path.{◌≡◌, refl, ◌∙◌, ap}
use mathlib.Core.List.{List}
use lib.ListN.{length, get_or}
use Rattle.semantics.specs.Words.{keep, fewer}
use Rattle.semantics.specs.Numbers as No
use Rattle.semantics.specs.Model.{Action, Model}
use Rattle.semantics.specs.State.{State, Process, returns_r, returns_b, process, put, past, with_held}
use Rattle.semantics.specs.Step.{is_return, putr, putb}
use Rattle.row_work.specs.Work.{work_of}
use Rattle.act_floor.specs.Acting.{SteppedQuietly}
use Rattle.act_floor.specs.Running.{On}
use Rattle.row_lists.specs.Lists.{returned}
use Rattle.act_putr_putb.proofs.Outcomes.{putb_full, putb_goes, putr_full, putr_goes, putr_short}

module _ {w : List ℕ} {p : ℕ} {x : Action} (v : On w p x) where
  abbrev model : Model
  model = v.running.run.model

  abbrev state : State
  state = v.running.run.is

  abbrev who : Process
  who = process state p

  -- k returns wait; g is the giver's number.
  module _ (i n k : ℕ) (many : k ≡ length (keep is_return state.events)) where
    pub putb_faults : No.returns ≤ k → SteppedQuietly (putb model state p i n) No.NOTICES 0 w w
    putb_faults h = rw (putb_full model state p i n k many h) (refl, (refl, refl))

    pub put_to_bin : k < No.returns → {g : ℕ} → g ≡ who.number → {w' : List ℕ}
        → w' ≡ work_of (returned (returns_b i n g) (put p (past who) state))
        → SteppedQuietly (putb model state p i n) 0 0 w w'
    put_to_bin h d f =
        rw (putb_goes model state p i n k many h)
        (refl, (refl, (f ∙ ap (λ j. work_of (returned (returns_b i n j) (put p (past who) state))) d, refl)))

    module _ (enough : n ≤ get_or who.held i 0) where
      pub putr_faults : No.returns ≤ k → SteppedQuietly (putr model state p i n) No.NOTICES 0 w w
      putr_faults h = rw (putr_full model state p i n k many enough h) (refl, (refl, refl))

      pub given_back : k < No.returns → {g : ℕ} → g ≡ who.number → {w' : List ℕ}
          → w' ≡ work_of (returned (returns_r i n g) (put p (past (with_held who (fewer who.held i n))) state))
          → SteppedQuietly (putr model state p i n) 0 0 w w'
      given_back h d f =
          let r : Process = past (with_held who (fewer who.held i n)) in
          rw (putr_goes model state p i n k many enough h)
          (refl, (refl, (f ∙ ap (λ j. work_of (returned (returns_r i n j) (put p r state))) d, refl)))

  pub too_little : (i n : ℕ) {h : ℕ} → h ≡ get_or who.held i 0 → h < n
      → SteppedQuietly (putr model state p i n) No.HELD 0 w w
  too_little i n e l = rw (putr_short model state p i n (rw e at l)) (refl, (refl, refl))
