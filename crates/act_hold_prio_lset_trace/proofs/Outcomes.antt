-- What the definitions make of an action with an expression, case by case. Assumes nothing.
use Prim.Native.Nat.{ℕ, ◌+◌, ◌-◌, ◌≤◌, ◌<◌}
use mathlib.Core.Path.{◌≡◌, sym, ◌∙◌, ap}
use mathlib.Core.List.{List}
use mathlib.Core.Bool.{true}
use lib.ListN.{set}
use lib.IntN.{nat_abs}
use lib.Signed.{non_neg}
use borrow.Author.Tests.{le-leb, lt-leb}
use Rattle.semantics.specs.Words.{ok, fails, ◌>>=◌, ◌>>◌, need}
use Rattle.semantics.specs.Numbers as No
use Rattle.semantics.specs.Numbers.{lowest}
use Rattle.semantics.specs.Model.{Expr, Model}
use Rattle.semantics.specs.State.{State, Process, empty, process, put, wake, past, with_floor, with_priority, with_locals}
use Rattle.semantics.specs.State.{with_seeds}
use Rattle.semantics.specs.Value.{Valued, eval}
use Rattle.semantics.specs.Walk.{line, quiet, after}
use Rattle.semantics.specs.Step.{hold, prio, set_local, trace}
use Rattle.base_numbers.specs.Code as Code
use Rattle.base_i32.specs.Code.{value_of, larger}
use Rattle.act_hold_prio_lset_trace.proofs.Values.{below_zero, from_zero}

-- The expression e has no value, or one.
module _ (m : Model) (s : State) (p : ℕ) (e : Expr) where
  abbrev q : Process
  q = process s p

  module _ (k : ℕ) (no : eval m s q e s.seeds ≡ fails k) where
    pub hold-fails : hold m s p e ≡ fails k
    unfolding hold ◌>>=◌
    hold-fails = rw no

    pub prio-fails : prio m s p e ≡ fails k
    unfolding prio ◌>>=◌
    prio-fails = rw no

    pub local_fails : (i : ℕ) → set_local m s p i e ≡ fails k
    unfolding set_local ◌>>=◌
    local_fails i = rw no

    pub trace-fails : trace m s p e ≡ fails k
    unfolding trace ◌>>=◌
    trace-fails = rw no

  -- The state with the seeds that its draws leave.
  abbrev drew : Valued → State
  drew v = with_seeds s v.seeds

  module _ (v : Valued) (yes : eval m s q e s.seeds ≡ ok v) where
    pub prio_goes : prio m s p e ≡ ok (quiet (put p (past (with_priority q (larger lowest v.value))) (drew v)))
    unfolding prio ◌>>=◌
    prio_goes = rw yes

    pub local_goes : (i : ℕ)
        → set_local m s p i e ≡ ok (quiet (put p (past (with_locals q (set q.locals i v.value))) (drew v)))
    unfolding set_local ◌>>=◌
    local_goes i = rw yes

    pub trace_goes : trace m s p e ≡ ok (after (line s q.number No.traced v.value) (quiet (put p (past q) (drew v))))
    unfolding trace ◌>>=◌
    trace_goes = rw yes

  -- A HOLD of the value of code c: back in time, too late, or until t.
  module _ (c : ℕ) (d : List ℕ) (yes : eval m s q e s.seeds ≡ ok (record { value = value_of c; seeds = d })) where
    pub hold_back : c < Code.ZERO → hold m s p e ≡ fails No.BACK
    unfolding hold ◌>>=◌ ◌>>◌ need
    hold_back l = rw (yes, below_zero c l)

    module _ (l : Code.ZERO ≤ c) (t : ℕ) (f : t ≡ s.clock + (c - Code.ZERO)) where
      goes_on : non_neg (value_of c) ≡ true
      goes_on = ap non_neg (from_zero c l)

      until : s.clock + nat_abs (value_of c) ≡ t
      until = ap (λ v. s.clock + nat_abs v) (from_zero c l) ∙ sym f

      pub hold_late : No.latest < t → hold m s p e ≡ fails No.LATE
      unfolding hold ◌>>=◌ ◌>>◌ need
      hold_late h = rw (yes, goes_on, until, lt-leb t No.latest h)

      pub hold_goes : t ≤ No.latest
          → hold m s p e ≡ ok (quiet (wake t p (with_floor (put p (past q) (with_seeds s d)) empty)))
      unfolding hold ◌>>=◌ ◌>>◌ need
      hold_goes h = rw (yes, goes_on, until, le-leb t No.latest h)
