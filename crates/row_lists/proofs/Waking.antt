-- A process or a return enters the event list of a work that shows the state. Assumes nothing.
use Prim.Native.Nat.{ℕ, ◌+◌, ◌*◌, ◌≤◌, ◌<◌}
use native.Mathlib.Omega.{arith}
use mathlib.Core.Path.{◌≡◌, ◌∙◌, ap}
use mathlib.Core.List.{List}
use lib.ListN.{get_or}
use Rattle.semantics.specs.Numbers as No
use Rattle.semantics.specs.Numbers.{of_returns}
use Rattle.semantics.specs.State.{State, Event, Notice, wakes, process, enter, wake, sooner}
use Rattle.base_numbers.specs.Row as Row
use Rattle.base_numbers.specs.Process as Process
use Rattle.base_numbers.specs.Word as Word
use Rattle.base_numbers.specs.Code as Code
use Rattle.base_i32.specs.Code.{code}
use Rattle.base_ordered.specs.Lines.{key_of, packed}
use Rattle.row_work.specs.Work.{EventSized, NoticeSized, Doing}
use Rattle.row_work.specs.Head.{clock_at}
use Rattle.row_process.specs.Process.{Lives, Shown, at_first}
use Rattle.row_lists.specs.Lists.{Any, Entering, returned, Notifying}
use Rattle.row_lists.proofs.Standing.{priority_is, priority_low}
use Rattle.row_lists.proofs.Entering.{inserted_has}

module _ {w : List ℕ} {p : ℕ} (t : ℕ) (d : Doing w (Lives p) (λ s. wake t p s)) where
  abbrev s : State
  s = d.is

  abbrev woken : Event
  woken = record { time = t; priority = (process s p).priority; notice = wakes p }

  pub time_low : t ≤ No.latest
  unfolding wake
  time_low = (inserted_has EventSized sooner woken s.events d.after.events_ok).time_low

  pub rank_low : {r : ℕ} → r ≡ get_or w (Row.PROCESSES + Process.WORDS * p + Process.PRIORITY) 0 → r < Word.RANKS
  rank_low e =
      omega (arith, e, priority_is (at_first d) p d.given.in_places, priority_low (at_first d) p)

  unfoldable pub wakes_up : (r : ℕ) {key word : ℕ} → r ≡ get_or w (Row.PROCESSES + Process.WORDS * p + Process.PRIORITY) 0
      → key ≡ key_of t r
      → word ≡ packed 0 p 0 0 → Entering w key word
  unfolding wake
  wakes_up r a b c =
      record {
        event = woken;
        key_is = b ∙ ap (key_of t) (a ∙ priority_is (at_first d) p d.given.in_places);
        word_is = c;
        doing = record { is = s; shows = d.shows; before = d.before; after = d.after; given = tt };
      }

-- A RETURN, of which its notice is known to be small, enters now.
module _ {w : List ℕ} (n : Notice) (d : Doing w Any (returned n)) where
  pub notice_low : NoticeSized n
  unfolding enter
  notice_low = (inserted_has EventSized sooner _ d.is.events d.after.events_ok).notice_ok

pub now_low : {w : List ℕ} {P : State → Type 0} (v : Shown w P) → get_or w Row.CLOCK 0 ≤ No.latest
now_low v = omega (arith, ap (λ l. get_or l Row.CLOCK 0) v.shows ∙ clock_at v.is, v.sized.clock_low)

unfoldable pub notifies : {w : List ℕ} {key word : ℕ} (d : Notifying w word) → key ≡ key_of (get_or w Row.CLOCK 0) Code.OF_RETURNS
    → Entering w key word
unfolding code
notifies d e =
    let s = d.doing.is in
    record {
      event = record { time = s.clock; priority = of_returns; notice = d.notice };
      key_is = e ∙ ap (λ t. key_of t Code.OF_RETURNS) (ap (λ l. get_or l Row.CLOCK 0) d.doing.shows ∙ clock_at s);
      word_is = d.word_is;
      doing = record { is = s; shows = d.doing.shows; before = d.doing.before; after = d.doing.after; given = tt };
    }
