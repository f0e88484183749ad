-- What is read of a work that shows a state, and a line that is written. Assumes nothing.
use Prim.Native.Nat.{ℕ, ◌+◌, ◌*◌, ◌≤◌}
use native.Mathlib.Omega.{arith}
use mathlib.Core.Path.{◌≡◌, ◌∙◌, ap}
use mathlib.Core.List.{List, [], ◌∷◌}
use borrow.Author.Tests.{le-ltb}
use lib.ListN.{length, get_or}
use lib.Seq.{sets}
use lib.IntN.{ℤ, pos}
use Rattle.semantics.specs.Numbers as No
use Rattle.semantics.specs.State.{State, process}
use Rattle.semantics.specs.Walk.{line}
use Rattle.semantics.specs.Journal.{line_bytes}
use Rattle.base_numbers.specs.Row as Row
use Rattle.base_i32.specs.Code.{value_of}
use Rattle.base_journal.specs.Wrote.{wrote_at}
use Rattle.row_work.specs.Shown.{work_long}
use Rattle.row_work.specs.Head.{clock_at}
use Rattle.row_process.specs.Process.{Shown}
use Rattle.row_process.specs.Put.{process_sized}

-- A WORK that shows a state.
module _ {w : List ℕ} {P : State → Type 0} (v : Shown w P) where
  pub is_long : length w ≡ Row.WORDS
  is_long = ap length v.shows ∙ work_long v.is v.sized

  pub clock_is : get_or w 0 0 ≡ v.is.clock
  clock_is = ap (λ l. get_or l 0 0) v.shows ∙ clock_at v.is

  pub clock_low : get_or w 0 0 ≤ No.latest
  clock_low = rw clock_is v.sized.clock_low

  pub number_low : (p : ℕ) → (process v.is p).number ≤ No.last_number
  number_low p = (process_sized v.is p v.sized).number_low

-- A LINE of it, written at the place `at`; and the code of a value that is not below 0.
pub noted : (at : ℕ) (out : List ℕ) (s : State) {c n number : ℕ} {v u : ℤ} (k : ℕ) → c ≡ s.clock → n ≡ number → v ≡ u
    → sets out (16 * at) (line_bytes (record { time = c; process = n; kind = k; value = v }))
    ≡ wrote_at at (line s number k u ∷ []) out
unfolding wrote_at
noted at out s {c} {n} {number} {v} k e f g =
    ap (λ t. sets out (16 * at) (line_bytes (record { time = t; process = n; kind = k; value = v }))) e
    ∙ ap (λ i. sets out (16 * at) (line_bytes (line s i k v))) f
    ∙ ap (λ z. sets out (16 * at) (line_bytes (line s number k z))) g

pub counted : (n : ℕ) → value_of (2_147_483_648 + n) ≡ pos n
unfolding value_of
counted n = rw (le-ltb (2_147_483_648 + n) 2_147_483_648 (omega arith)) (ap pos (omega arith))
