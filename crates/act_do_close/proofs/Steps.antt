-- A DO or a CLOSE is the definition's: what the work and the journal then hold is what they ought to. Assumes nothing.
use Prim.Native.Nat.{ℕ}
use mathlib.Core.Path.{◌≡◌, refl}
use mathlib.Core.List.{List, [], ◌∷◌}
use Rattle.semantics.specs.Numbers as No
use Rattle.semantics.specs.Model.{Action, Model}
use Rattle.semantics.specs.State.{State, Process, process, put, past, into, now_closed}
use Rattle.semantics.specs.Walk.{line}
use Rattle.semantics.specs.Step.{do_times, close}
use Rattle.base_numbers.specs.Code as Code
use Rattle.base_i32.specs.Code.{value_of}
use Rattle.base_journal.specs.Wrote.{wrote_at}
use Rattle.row_work.specs.Work.{work_of}
use Rattle.act_floor.specs.Acting.{Stepped, SteppedQuietly}
use Rattle.act_floor.specs.Running.{On}
use Rattle.act_do_close.proofs.Outcomes.{do_none, do_some}

module _ {w : List ℕ} {p : ℕ} {x : Action} (v : On w p x) where
  abbrev model : Model
  model = v.running.run.model

  abbrev state : State
  state = v.running.run.is

  abbrev who : Process
  who = process state p

  module _ (n b : ℕ) {w' : List ℕ} where
    pub done_none : n ≡ 0 → w' ≡ work_of (put p (past who) state) → SteppedQuietly (do_times model state p n b) 0 0 w w'
    done_none h f = rw (do_none model state p n b h) (refl, (refl, (f, refl)))

    pub done_some : (n ≡ 0 → ⊥) → w' ≡ work_of (put p (into n b who) state)
        → SteppedQuietly (do_times model state p n b) 0 0 w w'
    done_some h f = rw (do_some model state p n b h) (refl, (refl, (f, refl)))

  pub closed : {w' : List ℕ} → w' ≡ work_of (now_closed (put p (past who) state)) → (at : ℕ) (out : List ℕ) {out' : List ℕ}
      → out' ≡ wrote_at at (line state who.number No.closed (value_of Code.ZERO) ∷ []) out
      → Stepped (close model state p) 0 1 w w' at out out'
  unfolding close value_of
  closed f at out g = (refl, (refl, (f, g)))
