-- A HOLD, PRIO, LSET or TRACE is the definition's: the work and the journal then hold what they ought to. Assumes nothing.
use Prim.Native.Nat.{ℕ, ◌+◌, ◌-◌, ◌≤◌, ◌<◌}
use mathlib.Core.Path.{◌≡◌, refl}
use mathlib.Core.List.{List, [], ◌∷◌}
use mathlib.Core.Bool.{true, false}
use lib.ListN.{set}
use Rattle.semantics.specs.Words.{ok, fails}
use Rattle.semantics.specs.Numbers as No
use Rattle.semantics.specs.Numbers.{lowest}
use Rattle.semantics.specs.Model.{Expr, Action, Model}
use Rattle.semantics.specs.State.{State, Process, empty, process, put, wake, past, with_floor, with_priority, with_locals}
use Rattle.semantics.specs.State.{with_seeds}
use Rattle.semantics.specs.Value.{Valued, eval}
use Rattle.semantics.specs.Walk.{line}
use Rattle.semantics.specs.Step.{hold, prio, set_local, trace}
use Rattle.base_numbers.specs.Code as Code
use Rattle.base_i32.specs.Code.{value_of, outcome_of, larger}
use Rattle.base_i32.specs.declared.Value.{Value}
use Rattle.base_journal.specs.Wrote.{wrote_at}
use Rattle.act_value.specs.Parts.{draws_of, leaving}
use Rattle.row_work.specs.Work.{work_of}
use Rattle.act_floor.specs.Acting.{Stepped, SteppedQuietly}
use Rattle.act_hold_prio_lset_trace.specs.Given.{Given}
use Rattle.act_hold_prio_lset_trace.proofs.Values.{no_value, a_value}
use Rattle.act_hold_prio_lset_trace.proofs.Outcomes.{hold-fails, prio-fails, local_fails, trace-fails}
use Rattle.act_hold_prio_lset_trace.proofs.Outcomes.{hold_back, hold_late, hold_goes, prio_goes, local_goes, trace_goes}

-- The expression's value is r, and its draws leave the seeds d.
module _ {body map w : List ℕ} {p : ℕ} {x : Expr → Action} (v : Given body map w p x) where
  abbrev m : Model
  m = v.on.running.run.model

  abbrev s : State
  s = v.on.running.run.is

  abbrev q : Process
  q = process s p

  abbrev e : Expr
  e = v.expression

  abbrev d : List ℕ
  d = draws_of e s.seeds

  abbrev drew : State
  drew = with_seeds s d

  module _ (r : Value) (t : eval m s q e s.seeds ≡ leaving (outcome_of r) d) where
    -- There is none.
    module _ {w' : List ℕ} (same : w' ≡ w) (no : r.ok ≡ false) where
      none : eval m s q e s.seeds ≡ fails No.SUM
      none = no_value r d t no

      pub hold_faults : SteppedQuietly (hold m s p e) No.SUM 0 w w'
      hold_faults = rw (hold-fails m s p e No.SUM none) (refl, (refl, same))

      pub prio_faults : SteppedQuietly (prio m s p e) No.SUM 0 w w'
      prio_faults = rw (prio-fails m s p e No.SUM none) (refl, (refl, same))

      pub local_faults : (i : ℕ) → SteppedQuietly (set_local m s p i e) No.SUM 0 w w'
      local_faults i = rw (local_fails m s p e No.SUM none i) (refl, (refl, same))

      pub trace_faults : (at : ℕ) (out : List ℕ) → Stepped (trace m s p e) No.SUM 0 w w' at out out
      trace_faults at out = rw (trace-fails m s p e No.SUM none) (refl, (refl, (same, refl)))

    -- There is one.
    module _ (yes : r.ok ≡ true) where
      abbrev u : Valued
      u = record { value = value_of r.code; seeds = d }

      there : eval m s q e s.seeds ≡ ok u
      there = a_value r d t yes

      pub hold_is_back : {w' : List ℕ} → w' ≡ w → r.code < Code.ZERO → SteppedQuietly (hold m s p e) No.BACK 0 w w'
      hold_is_back same l = rw (hold_back m s p e r.code d there l) (refl, (refl, same))

      module _ (l : Code.ZERO ≤ r.code) (k : ℕ) (f : k ≡ s.clock + (r.code - Code.ZERO)) where
        pub hold_is_late : {w' : List ℕ} → w' ≡ w → No.latest < k → SteppedQuietly (hold m s p e) No.LATE 0 w w'
        hold_is_late same h = rw (hold_late m s p e r.code d there l k f h) (refl, (refl, same))

        pub held : k ≤ No.latest → {w' : List ℕ} → w' ≡ work_of (wake k p (with_floor (put p (past q) drew) empty))
            → SteppedQuietly (hold m s p e) 0 0 w w'
        held h g = rw (hold_goes m s p e r.code d there l k f h) (refl, (refl, (g, refl)))

      pub prioritized : {w' : List ℕ} → w' ≡ work_of (put p (past (with_priority q (larger lowest (value_of r.code)))) drew)
          → SteppedQuietly (prio m s p e) 0 0 w w'
      prioritized f = rw (prio_goes m s p e u there) (refl, (refl, (f, refl)))

      pub local_set : (i : ℕ) {w' : List ℕ}
          → w' ≡ work_of (put p (past (with_locals q (set q.locals i (value_of r.code)))) drew)
          → SteppedQuietly (set_local m s p i e) 0 0 w w'
      local_set i f = rw (local_goes m s p e u there i) (refl, (refl, (f, refl)))

      pub traced : {w' : List ℕ} → w' ≡ work_of (put p (past q) drew) → (at : ℕ) (out : List ℕ) {out' : List ℕ}
          → out' ≡ wrote_at at (line s q.number No.traced (value_of r.code) ∷ []) out
          → Stepped (trace m s p e) 0 1 w w' at out out'
      traced f at out g = rw (trace_goes m s p e u there) (refl, (refl, (f, g)))
