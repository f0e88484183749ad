-- What the test of one word decides: that the word is made again of what it shows, and that this has a size that the work can
-- hold. Assumes nothing.
use Prim.Native.Nat.{ℕ, ◌-◌, ◌/◌, ◌%◌, ◌≤◌, ◌<◌}
use native.Mathlib.Omega.{arith}
use mathlib.Core.Path.{◌≡◌, refl}
use mathlib.Core.Bool.{Bool, true, false}
use lib.Dec.{eqb, leb}
use borrow.Author.Tests.{eqb-true, eqb-false, leb-true, ltb-true, le-leb, lt-ltb}
use Rattle.semantics.specs.Numbers as No
use Rattle.promises.specs.Laws.{◌&◌}
use Rattle.promises.specs.Fit.{I32}
use Rattle.promises.specs.Says.{Says, says_le, says_lt, says_for, ◌and◌}
use Rattle.base_numbers.specs.Code as Code
use Rattle.base_numbers.specs.Most as Most
use Rattle.base_numbers.specs.Word as Word
use Rattle.base_numbers.specs.Limit as Limit
use Rattle.base_i32.specs.Code.{code, value_of}
use Rattle.base_i32.specs.Laws.{code-value_of, code_fits, value_fits}
use Rattle.base_ordered.specs.Lines.{event_key, waiter_word, data_of, packed, kind_of, number_of, amount_of, giver_of}
use Rattle.row_work.specs.Work.{frame_word, slave_word, FrameSized, SlaveSized, WaiterSized, NoticeSized}
use Rattle.row_view.specs.View.{frame_of, slave_of, waiter_of, notice_of, event_of}
use Rattle.row_view.specs.Fits.{frame_fits, return_fits, notice_fits}

pub says_code : (x : ℕ) → Says (leb x Code.HIGHEST) ((code (value_of x) ≡ x) × I32 (value_of x))
says_code x =
    record {
      yes = λ e. let h = leb-true x Code.HIGHEST e in (code-value_of x, value_fits x (omega arith));
      back = λ h. let a = code_fits (value_of x) h.1 in let b = h.0 in le-leb x Code.HIGHEST (omega arith);
    }

pub says_slave : (x : ℕ) → Says (leb x Most.SLAVE) ((slave_word (slave_of x) ≡ x) × SlaveSized (slave_of x))
says_slave x =
    record {
      yes = λ e. let h = leb-true x Most.SLAVE e in (omega arith, record { of_low = omega arith; place_low = omega arith });
      back = λ h. let a = h.1.of_low in le-leb x Most.SLAVE (omega arith);
    }

pub says_waiter : (x : ℕ) → Says (leb x Most.WAITER) ((waiter_word (waiter_of x) ≡ x) × WaiterSized (waiter_of x))
says_waiter x =
    let c : code (value_of (Code.HIGHEST - x / Word.KEY)) ≡ Code.HIGHEST - x / Word.KEY =
    code-value_of (Code.HIGHEST - x / Word.KEY) in
    let b = value_fits (Code.HIGHEST - x / Word.KEY) (omega arith) in
    record {
      yes =
          λ e.
          let h = leb-true x Most.WAITER e in (rw c (omega arith), record { priority_ok = b; place_low = omega arith });
      back = λ h. let a = rw c at h.0 in le-leb x Most.WAITER (omega arith);
    }

pub says_frame : (x : ℕ) → Says (frame_fits x) ((frame_word (frame_of x) ≡ x) × FrameSized (frame_of x))
says_frame x =
    says_for (says_lt and says_le and says_lt)
    (λ h. (word, record { block_low = h.0; at_low = h.1.0; rounds_low = h.1.1 }))
    (λ h. h.1.block_low & h.1.at_low & h.1.rounds_low)
  where
    word : frame_word (frame_of x) ≡ x
    word = let a : x / Word.ACTION / Word.ACTIONS ≡ x / Word.ROUND = omega arith in omega arith

-- The key of an event: its time and its priority.
pub says_key : (x : ℕ)
    → Says (leb x Most.KEY) ((event_key (event_of x 0) ≡ x) × (x / Word.TIME ≤ No.latest))
says_key x =
    let c : code (value_of (Code.HIGHEST - x % Word.RANKS)) ≡ Code.HIGHEST - x % Word.RANKS =
    code-value_of (Code.HIGHEST - x % Word.RANKS) in
    record {
      yes = λ e. let h = leb-true x Most.KEY e in (rw c (omega arith), omega arith);
      back = λ h. let a = h.1 in le-leb x Most.KEY (omega arith);
    }

-- What an event does. A word of kind k from 1 to 2 is made again of its parts.
remade : (k x : ℕ) → kind_of x ≡ k → packed k (number_of x) (amount_of x) (giver_of x) ≡ x
remade k x e =
    let a : x / Word.KINDS / Word.NUMBERS ≡ x / Word.AMOUNT = omega arith in
    let b : x / Word.AMOUNT / Word.AMOUNTS ≡ x / Word.GIVER = omega arith in
    omega arith

is_two : (k : ℕ) → (k ≡ 0 → ⊥) → (k ≡ 1 → ⊥) → k < 3 → k ≡ 2
is_two k n o l = omega arith

module _ (x : ℕ) where
  abbrev Parts : Type 0
  Parts = (number_of x < Limit.THINGS) × ((amount_of x ≤ Limit.AMOUNT) × (giver_of x ≤ No.last_number))

  says_return : (k : ℕ) → (kind_of x < 3 → kind_of x ≡ k) → k < 3
      → Says (return_fits x) ((packed k (number_of x) (amount_of x) (giver_of x) ≡ x) × Parts)
  says_return k is low =
      says_for (says_lt and says_lt and says_le and says_le) (λ h. (remade k x (is h.0), h.1))
      (λ h. (let a = h.0 in omega arith, h.1))

  pub says_notice : Says (notice_fits x) ((data_of (notice_of x) ≡ x) × NoticeSized (notice_of x))
  says_notice = by (eqb (kind_of x) 0) refl (eqb (kind_of x) 1) refl
    where
      by : (a : Bool) → eqb (kind_of x) 0 ≡ a → (b : Bool) → eqb (kind_of x) 1 ≡ b
          → Says (notice_fits x) ((data_of (notice_of x) ≡ x) × NoticeSized (notice_of x))
      by true e b f =
          let k = eqb-true (kind_of x) 0 e in
          rw e
          (record {
            yes = λ t. let h = ltb-true x _ t in (omega arith, omega arith);
            back = λ h. let a = h.0 in lt-ltb x _ (omega arith);
          })
      by false e true f = let k = eqb-true (kind_of x) 1 f in rw (e, f) (says_return 1 (λ l. k) (omega arith))
      by false e false f =
          let n = eqb-false (kind_of x) 0 e in
          let o = eqb-false (kind_of x) 1 f in
          rw (e, f) (says_return 2 (λ l. is_two (kind_of x) n o l) (omega arith))
