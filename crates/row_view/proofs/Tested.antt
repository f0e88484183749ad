-- The tests of the parts make the test of the whole. Assumes nothing.
use Prim.Native.Nat.{ℕ, ◌+◌, ◌-◌}
use native.Mathlib.Omega.{arith}
use mathlib.Core.Path.{◌≡◌, ◌∙◌, ap}
use mathlib.Core.List.{List}
use mathlib.Core.Bool.{Bool, ◌&&◌}
use lib.Dec.{eqb, leb}
use lib.ListN.{get_or}
use Rattle.semantics.specs.Numbers as No
use Rattle.base_numbers.specs.Code as Code
use Rattle.base_numbers.specs.Most as Most
use Rattle.base_numbers.specs.Row as Row
use Rattle.base_numbers.specs.Process as Process
use Rattle.base_numbers.specs.Limit as Limit
use Rattle.row_view.specs.View.{cut, seated}
use Rattle.row_view.specs.Fits.{frame_fits, notice_fits, fits, fits_below, waiting_fits, process_fits, place_fits}
use Rattle.row_view.specs.Fits.{lists_fit}

module _ (resources : ℕ) (row : List ℕ) where
  pub process_tested : {m n : ℕ} {a b c d : Bool} → m ≡ seated (get_or row Process.DEPTH 0) 8
      → a ≡ fits_below m Code.HIGHEST (cut Process.LOCALS No.locals row)
      → n ≡ seated (get_or row Process.DEPTH 0) resources → b ≡ fits_below n Limit.AMOUNT (cut Process.HELD Limit.THINGS row)
      → c ≡ fits frame_fits (get_or row Process.DEPTH 0) (cut Process.BLOCKS Limit.DEPTH row)
      → d ≡ fits_below (get_or row Process.SLAVES 0) Most.SLAVE (cut Process.OWNED Process.OWNED_MOST row)
      → (leb (get_or row Process.NUMBER 0) No.last_number && leb (get_or row Process.PRIORITY 0) Code.HIGHEST)
      && (a && (b && (c && (leb (get_or row Process.SLAVES 0) No.places && d))))
      ≡ process_fits resources row
  unfolding process_fits
  process_tested m_is a_is n_is b_is c_is d_is =
      let i = a_is ∙ ap (λ n. fits_below n Code.HIGHEST (cut Process.LOCALS No.locals row)) m_is in
      let j = b_is ∙ ap (λ n. fits_below n Limit.AMOUNT (cut Process.HELD Limit.THINGS row)) n_is in
      λ t.
      (leb (get_or row Process.NUMBER 0) No.last_number && leb (get_or row Process.PRIORITY 0) Code.HIGHEST)
      && (i t && (j t && (c_is t && (leb (get_or row Process.SLAVES 0) No.places && d_is t))))

  pub place_tested : (digit : ℕ) {n : ℕ} {a : Bool} → n ≡ seated (get_or row Process.DEPTH 0) 1 → a ≡ process_fits resources row
      → a && eqb digit n ≡ place_fits resources row digit
  place_tested digit n_is a_is = λ t. a_is t && eqb digit (n_is t)

pub lists_tested : (syncs : ℕ) (w : List ℕ) {a b c d : Bool}
    → a ≡ fits_below (get_or w Row.BLOCKED 0) Most.WAITER (cut Row.QUEUE Row.WAITERS_MOST w)
    → b ≡ fits_below (get_or w Row.EVENTS 0) Most.KEY (cut Row.KEYS Row.EVENTS_MOST w)
    → c ≡ fits notice_fits (get_or w Row.EVENTS 0) (cut Row.NOTICES Row.EVENTS_MOST w)
    → d ≡ waiting_fits (cut Row.WAITS (Row.WAITS + syncs - Row.WAITS) w) (cut Row.WAITING Row.WAITERS_ALL w)
    → a && (b && (c && d)) ≡ lists_fit syncs w
lists_tested syncs w a_is b_is c_is d_is =
    let e : Row.WAITS + syncs - Row.WAITS ≡ syncs = omega arith in
    let i = d_is ∙ ap (λ n. waiting_fits (cut Row.WAITS n w) (cut Row.WAITING Row.WAITERS_ALL w)) e in
    λ t. a_is t && (b_is t && (c_is t && i t))
