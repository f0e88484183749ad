-- One list of those that wait, the blocked or a sync's, wherever its row stands in the work. Assumes nothing.
use Rattle.std.specs.Prelude.{ℕ, ◌+◌, ◌-◌, ◌≤◌, ◌<◌, ◌≡◌, List, ◌++◌, leb, length, get_or, set, take, drop}
use Rattle.semantics.specs.Numbers as No
use Rattle.semantics.specs.Words.{insert}
use Rattle.semantics.specs.State.{Waiter, higher}
use Rattle.promises.specs.Fit.{I32}
use Rattle.base_numbers.specs.Row as Row
use Rattle.base_ordered.specs.Lines.{removed, place_of, waiter_key}
use Rattle.row_work.specs.Work.{waiters_row, WaitersSized}

-- The list ws has the row from `from` on, and how many they are stands at `count`.
pub record Queue (w : List ℕ) (from count : ℕ) (ws : List Waiter) : Type 0 where
  pub long : length w ≡ Row.WORDS
  pub row_in : from + Row.WAITERS_MOST ≤ Row.WORDS
  pub count_in : count < Row.WORDS
  pub row_is : take Row.WAITERS_MOST (drop from w) ≡ waiters_row ws
  pub count_is : get_or w count 0 ≡ length ws
  pub sized : WaitersSized ws

-- The work with another list there.
abbrev pub queued : (w : List ℕ) (from count : ℕ) → List Waiter → ℕ → List ℕ
queued w from count ws n = set (take from w ++ (waiters_row ws ++ drop Row.WAITERS_MOST (drop from w))) count n

-- How many are of x's priority or a higher one, where the higher stand first.
abbrev pub before : Waiter → List Waiter → ℕ
before x ws = place_of (λ v. leb (waiter_key v) (waiter_key x)) ws

-- One of this key looks for its place behind them;
pub record Seeking (w : List ℕ) (from count key : ℕ) : Type 0 where
  pub line : List Waiter
  pub queue : Queue w from count line
  pub who : Waiter
  pub key_is : key ≡ waiter_key who

pub record Sought (w : List ℕ) (from count key r : ℕ) (d : Seeking w from count key) : Type 0 where
  pub place_is : r ≡ before d.who d.line
  pub in_line : r ≤ length d.line

-- joins there;
pub record Joining (w : List ℕ) (from count key place : ℕ) : Type 0 where
  pub seeking : Seeking w from count key
  pub place_is : place ≡ seeking.who.place
  pub place_low : place < No.places
  pub ranked : I32 seeking.who.priority
  pub room : length seeking.line < Row.WAITERS_MOST

abbrev pub Joined : (w : List ℕ) (from count key place : ℕ) → List ℕ → Type 0
Joined w from count key place x =
    (d : Joining w from count key place) →
    x ≡ queued w from count (insert higher d.seeking.who d.seeking.line) (length d.seeking.line + 1)

-- or leaves from place k.
pub record Parting (w : List ℕ) (from count k : ℕ) : Type 0 where
  pub line : List Waiter
  pub queue : Queue w from count line
  pub in_line : k < length line

abbrev pub Parted : (w : List ℕ) (from count k : ℕ) → List ℕ → Type 0
Parted w from count k x = (d : Parting w from count k) → x ≡ queued w from count (removed k d.line) (length d.line - 1)
