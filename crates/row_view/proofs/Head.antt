-- The words of the head, and how many processes and waiting lists a row shows. Assumes nothing.
use Prim.Native.Nat.{ℕ, zero, suc, ◌≤◌}
use native.Mathlib.Omega.{arith}
use mathlib.Core.Path.{◌≡◌, refl, sym, ap}
use mathlib.Core.List.{List, [], ◌∷◌}
use mathlib.Core.Bool.{Bool, true, false}
use lib.Dec.{eqb}
use borrow.Author.Tests.{eqb-true, eqb-false}
use lib.ListN.{length, drop}
use Rattle.semantics.specs.Numbers as No
use Rattle.base_numbers.specs.Row as Row
use Rattle.base_numbers.specs.Process as Process
use Rattle.row_work.specs.Work.{closed_word, floor_word, FloorSized}
use Rattle.row_view.specs.View.{floor_of, waiting_of, processes_of}

-- THE HEAD's words.
pub closed_is : (x : ℕ) → x ≤ 1 → closed_word (eqb x 1) ≡ x
closed_is x h = by (eqb x 1) refl
  where
    by : (b : Bool) → eqb x 1 ≡ b → closed_word b ≡ x
    by true e = sym (eqb-true x 1 e)
    by false e = let n = eqb-false x 1 e in is_zero n
      where
        is_zero : (x ≡ 1 → ⊥) → 0 ≡ x
        is_zero n = omega arith

pub closed_low : (b : Bool) → closed_word b ≤ 1
closed_low true = omega arith
closed_low false = omega arith

module _ (x : ℕ) where
  pub floor_is : floor_word (floor_of x) ≡ x
  floor_is = by (eqb x 0) refl
    where
      by : (b : Bool) → eqb x 0 ≡ b → floor_word (floor_of x) ≡ x
      by true e = rw e (sym (eqb-true x 0 e))
      by false e = let n : x ≡ 0 → ⊥ = eqb-false x 0 e in rw e (omega arith)

  pub floor_ok : x ≤ No.places → FloorSized (floor_of x)
  floor_ok h = by (eqb x 0) refl
    where
      by : (b : Bool) → eqb x 0 ≡ b → FloorSized (floor_of x)
      by true e = rw e tt
      by false e = let n : x ≡ 0 → ⊥ = eqb-false x 0 e in rw e (omega arith)

  pub floor_low : FloorSized (floor_of x) → x ≤ No.places
  floor_low h = by (eqb x 0) refl
    where
      by : (b : Bool) → eqb x 0 ≡ b → x ≤ No.places
      by true e = let z = eqb-true x 0 e in omega arith
      by false e = let a = rw e at h in omega arith

-- HOW MANY are shown.
pub processes_long : (r n : ℕ) (rows : List ℕ) → length (processes_of r n rows) ≡ n
unfolding processes_of
processes_long r zero rows = refl
processes_long r (suc n) rows = ap suc (processes_long r n (drop Process.WORDS rows))

pub waiting_many : (ns rows : List ℕ) → length (waiting_of ns rows) ≡ length ns
unfolding waiting_of
waiting_many [] rows = refl
waiting_many (n ∷ ns) rows = ap suc (waiting_many ns (drop Row.WAITERS_MOST rows))
