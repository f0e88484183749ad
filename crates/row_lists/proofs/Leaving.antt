-- The first event leaves a work that shows the state, and is put back. Assumes nothing.
use Prim.Native.Nat.{ℕ, suc, ◌-◌, ◌/◌, ◌≤◌}
use native.Mathlib.Omega.{arith}
use mathlib.Core.Path.{◌≡◌, sym, ◌∙◌, ap}
use mathlib.Core.List.{List, map}
use lib.ListN.{length, get_or, set, take, drop}
use Rattle.semantics.specs.State.{State, Event, at_clock, with_events}
use Rattle.base_numbers.specs.Row as Row
use Rattle.base_numbers.specs.Word as Word
use Rattle.base_ordered.specs.Lines.{pad, removed, event_key, event_word}
use Rattle.row_work.specs.Work.{work_of, Doing}
use Rattle.row_work.specs.Events.{first_key, first_word}
use Rattle.row_work.specs.Head.{clock_set}
use Rattle.row_process.specs.Process.{Shown, at_first}
use Rattle.row_lists.specs.Lists.{Due, without_first, first_out, Putting, PuttingBack}
use Rattle.row_lists.proofs.Rows.{row_out}
use Rattle.row_lists.proofs.Events.{Keys, Words, count_is, keys_there}

module _ {w : List ℕ} (v : Shown w Due) where
  abbrev s : State
  s = v.is

  abbrev left : List Event
  left = v.given.behind

  pub count_next : get_or w Row.EVENTS 0 ≡ suc (length left)
  count_next = count_is v ∙ ap length v.given.events_are

  pub left_count : get_or w Row.EVENTS 0 - 1 ≡ length left
  left_count = omega (arith, count_next)

  left_few : length left ≤ Row.EVENTS_MOST
  left_few = omega (arith, count_is v, count_next, v.sized.events_few)

  pub keys_out : {ks : List ℕ}
      → ks ≡ pad (length (take Row.EVENTS_MOST (drop Row.KEYS w)))
      (removed 0 (take (get_or w Row.EVENTS 0) (take Row.EVENTS_MOST (drop Row.KEYS w)))) → Keys left ks
  keys_out e =
      let k = keys_there v in
      record {
        few = left_few;
        are = row_out event_key s.events Row.EVENTS_MOST _ _ k.are (count_is v) k.few 0 _ e
            ∙ ap (λ l. pad Row.EVENTS_MOST (map event_key (removed 0 l))) v.given.events_are;
      }

  pub words_out : {xs ws : List ℕ} → Words s.events xs
      → ws ≡ pad (length xs) (removed 0 (take (get_or w Row.EVENTS 0) xs)) → Words left ws
  words_out k e =
      record {
        few = left_few;
        are = row_out event_word s.events Row.EVENTS_MOST _ _ k.are (count_is v) k.few 0 _ e
            ∙ ap (λ l. pad Row.EVENTS_MOST (map event_word (removed 0 l))) v.given.events_are;
      }

  pub first_does : get_or w Row.NOTICES 0 ≡ event_word v.given.first
  first_does =
      ap (λ l. get_or l Row.NOTICES 0) v.shows ∙ first_word s v.sized v.given.first left v.given.events_are

  first_time : get_or w Row.KEYS 0 / Word.TIME ≡ v.given.first.time
  first_time =
      omega (arith, ap (λ l. get_or l Row.KEYS 0) v.shows ∙ first_key s v.sized v.given.first left v.given.events_are)

pub first_taken : {w : List ℕ} (d : Doing w Due first_out) (x : List ℕ) → x ≡ work_of (with_events d.is d.given.behind)
    → set x Row.CLOCK (get_or w Row.KEYS 0 / Word.TIME) ≡ work_of (first_out d.is)
unfolding first_out without_first
first_taken {w} d x e =
    ap (λ l. set l Row.CLOCK (get_or w Row.KEYS 0 / Word.TIME)) e
    ∙ clock_set (with_events d.is d.given.behind) _
    ∙ ap (λ t. work_of (with_events (at_clock d.is t) d.given.behind)) (first_time (at_first d))
    ∙ ap (λ l. work_of (without_first d.is l)) (sym d.given.events_are)

-- PUT BACK.
unfoldable pub puts_back : {w : List ℕ} {clock key word : ℕ} → PuttingBack w clock key word → Putting w 0 key word
puts_back d =
    let m = d.doing.after.events_few in
    record {
      event = d.event;
      key_is = d.key_is;
      word_is = d.word_is;
      shown = record {
        is = d.doing.is;
        shows = d.doing.shows;
        sized = d.doing.before;
        given = (omega arith, omega (arith, m));
      };
    }
