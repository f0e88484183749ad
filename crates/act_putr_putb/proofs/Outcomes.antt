-- What the definitions make of a PUTR and a PUTB, case by case. Assumes nothing.
use Prim.Native.Nat.{ℕ, ◌≤◌, ◌<◌}
use native.Mathlib.Omega.{arith}
use mathlib.Core.Path.{◌≡◌}
use mathlib.Core.Bool.{true, false}
use lib.Dec.{ltb}
use lib.ListN.{length, get_or}
use borrow.Author.Tests.{le-leb, lt-leb, lt-ltb, le-ltb}
use Rattle.semantics.specs.Words.{ok, fails, ◌>>◌, need, keep, fewer}
use Rattle.semantics.specs.Numbers as No
use Rattle.semantics.specs.Model.{Model}
use Rattle.semantics.specs.State.{State, Process, returns_r, returns_b, process, put, past, with_held}
use Rattle.semantics.specs.Walk.{quiet}
use Rattle.semantics.specs.Step.{is_return, putr, putb}
use Rattle.row_lists.specs.Lists.{returned}

module _ (m : Model) (s : State) (p : ℕ) where
  abbrev q : Process
  q = process s p

  -- k returns wait.
  module _ (i n k : ℕ) (many : k ≡ length (keep is_return s.events)) where
    few : k < No.returns → ltb (length (keep is_return s.events)) No.returns ≡ true
    few h = lt-ltb (length (keep is_return s.events)) No.returns (omega (arith, many))

    full : No.returns ≤ k → ltb (length (keep is_return s.events)) No.returns ≡ false
    full h = le-ltb (length (keep is_return s.events)) No.returns (omega (arith, many))

    pub putb_full : No.returns ≤ k → putb m s p i n ≡ fails No.NOTICES
    unfolding putb ◌>>◌ need
    putb_full h = rw (full h)

    pub putb_goes : k < No.returns → putb m s p i n ≡ ok (quiet (returned (returns_b i n q.number) (put p (past q) s)))
    unfolding putb ◌>>◌ need
    putb_goes h = rw (few h)

    module _ (enough : n ≤ get_or q.held i 0) where
      pub putr_full : No.returns ≤ k → putr m s p i n ≡ fails No.NOTICES
      unfolding putr ◌>>◌ need
      putr_full h = rw (le-leb n (get_or q.held i 0) enough, full h)

      pub putr_goes : k < No.returns → putr m s p i n
          ≡ ok (quiet (returned (returns_r i n q.number) (put p (past (with_held q (fewer q.held i n))) s)))
      unfolding putr ◌>>◌ need
      putr_goes h = rw (le-leb n (get_or q.held i 0) enough, few h)

  pub putr_short : (i n : ℕ) → get_or q.held i 0 < n → putr m s p i n ≡ fails No.HELD
  unfolding putr ◌>>◌ need
  putr_short i n h = rw (lt-leb n (get_or q.held i 0) h)
