-- What is found of the event list in a work that shows a state, and what is written there. Assumes nothing.
use Prim.Native.Nat.{ℕ, ◌+◌, ◌≤◌}
use native.Mathlib.Omega.{arith}
use mathlib.Core.Path.{◌≡◌, ◌∙◌, ap}
use mathlib.Core.List.{List, ◌++◌, map}
use lib.ListN.{length, get_or, set, take, drop}
use Rattle.semantics.specs.State.{State, Event, with_events}
use Rattle.base_numbers.specs.Row as Row
use Rattle.base_ordered.specs.Lines.{pad, Canon, inserted, event_key, event_word}
use Rattle.base_ordered.specs.Order.{inserted-length}
use Rattle.base_ordered.specs.Shown.{canon}
use Rattle.row_work.specs.Work.{work_of}
use Rattle.row_work.specs.Shown.{work_long, row_length}
use Rattle.row_work.specs.Inside.{whole_long}
use Rattle.row_work.specs.Events.{events_count, keys_part, words_part, words_still, events_changed}
use Rattle.row_process.specs.Process.{Shown}
use Rattle.row_lists.specs.Lists.{Putting}
use Rattle.row_lists.proofs.Rows.{row_put}

-- Rows that show the list es: of its keys, and of its words.
pub record Keys (es : List Event) (ks : List ℕ) : Type 0 where
  pub few : length es ≤ Row.EVENTS_MOST
  pub are : ks ≡ pad Row.EVENTS_MOST (map event_key es)

pub record Words (es : List Event) (ws : List ℕ) : Type 0 where
  pub few : length es ≤ Row.EVENTS_MOST
  pub are : ws ≡ pad Row.EVENTS_MOST (map event_word es)

pub keys_wide : {es : List Event} {ks : List ℕ} → Keys es ks → length ks ≡ Row.EVENTS_MOST
keys_wide {es} k = ap length k.are ∙ row_length Row.EVENTS_MOST event_key es k.few

pub words_wide : {es : List Event} {ws : List ℕ} → Words es ws → length ws ≡ Row.EVENTS_MOST
words_wide {es} k = ap length k.are ∙ row_length Row.EVENTS_MOST event_word es k.few

module _ {w : List ℕ} {P : State → Type 0} (v : Shown w P) where
  abbrev s : State
  s = v.is

  pub long : length w ≡ Row.WORDS
  long = ap length v.shows ∙ work_long s v.sized

  pub count_is : get_or w Row.EVENTS 0 ≡ length s.events
  count_is = ap (λ l. get_or l Row.EVENTS 0) v.shows ∙ events_count s

  pub keys_there : Keys s.events (take Row.EVENTS_MOST (drop Row.KEYS w))
  keys_there =
      record {
        few = v.sized.events_few;
        are = ap (λ l. take Row.EVENTS_MOST (drop Row.KEYS l)) v.shows
            ∙ keys_part s v.sized;
      }

  pub keys_canon : Canon (take Row.EVENTS_MOST (drop Row.KEYS w)) (get_or w Row.EVENTS 0)
  keys_canon = canon event_key s.events Row.EVENTS_MOST _ _ keys_there.are count_is

  pub words_here : Words s.events (take Row.EVENTS_MOST (drop Row.NOTICES w))
  words_here =
      record {
        few = v.sized.events_few;
        are = ap (λ l. take Row.EVENTS_MOST (drop Row.NOTICES l)) v.shows
            ∙ words_part s v.sized;
      }

  pub words_here_canon : Canon (take Row.EVENTS_MOST (drop Row.NOTICES w)) (get_or w Row.EVENTS 0)
  words_here_canon = canon event_word s.events Row.EVENTS_MOST _ _ words_here.are count_is

  -- Another list es is written: its keys ks,
  module _ {es : List Event} {ks : List ℕ} (k : Keys es ks) where
    abbrev rekeyed : List ℕ → List ℕ
    rekeyed l = take Row.KEYS l ++ (ks ++ drop Row.EVENTS_MOST (drop Row.KEYS l))

    pub rekeyed_long : length (rekeyed w) ≡ Row.WORDS
    rekeyed_long = let l = long in whole_long w Row.KEYS Row.EVENTS_MOST ks (omega arith) (keys_wide k) ∙ l

    pub words_there : Words s.events (take Row.EVENTS_MOST (drop Row.NOTICES (rekeyed w)))
    words_there =
        record {
          few = v.sized.events_few;
          are = ap (λ l. take Row.EVENTS_MOST (drop Row.NOTICES (rekeyed l))) v.shows
              ∙ words_still s v.sized ks (keys_wide k);
        }

    pub words_canon : Canon (take Row.EVENTS_MOST (drop Row.NOTICES (rekeyed w))) (get_or w Row.EVENTS 0)
    words_canon = canon event_word s.events Row.EVENTS_MOST _ _ words_there.are count_is

    -- its words ws, and how many there are.
    module _ {ws : List ℕ} (x : Words es ws) where
      abbrev rewritten : List ℕ → List ℕ
      rewritten l = take Row.NOTICES (rekeyed l) ++ (ws ++ drop Row.EVENTS_MOST (drop Row.NOTICES (rekeyed l)))

      pub rewritten_long : length (rewritten w) ≡ Row.WORDS
      rewritten_long = let l = rekeyed_long in whole_long (rekeyed w) Row.NOTICES Row.EVENTS_MOST ws (omega arith) (words_wide x)
          ∙ l

      pub events_written : (n : ℕ) → n ≡ length es → set (rewritten w) 5 n ≡ work_of (with_events s es)
      events_written n e =
          ap (λ l. set (rewritten l) 5 n) v.shows ∙ events_changed s v.sized ks (keys_wide k) ws n es k.are x.are e

-- ONE IS PUT IN at a place.
module _ {w : List ℕ} {at key word : ℕ} (d : Putting w at key word) where
  abbrev old : List Event
  old = d.shown.is.events

  abbrev more : List Event
  more = inserted at d.event old

  more_long : length more ≡ length old + 1
  more_long = inserted-length at d.event old d.shown.given.0

  more_few : length more ≤ Row.EVENTS_MOST
  more_few = let g = d.shown.given in omega (arith, more_long)

  pub more_count : get_or w Row.EVENTS 0 + 1 ≡ length more
  more_count = omega (arith, count_is d.shown, more_long)

  pub keys_put : {ks : List ℕ}
      → ks ≡ pad (length (take Row.EVENTS_MOST (drop Row.KEYS w)))
      (inserted at key (take (get_or w Row.EVENTS 0) (take Row.EVENTS_MOST (drop Row.KEYS w)))) → Keys more ks
  keys_put e =
      let k = keys_there d.shown in
      record {
        few = more_few;
        are = row_put event_key old Row.EVENTS_MOST _ _ k.are (count_is d.shown) k.few at key d.event d.key_is _ e;
      }

  pub words_put : {xs ws : List ℕ} → Words old xs
      → ws ≡ pad (length xs) (inserted at word (take (get_or w Row.EVENTS 0) xs)) → Words more ws
  words_put k e =
      record {
        few = more_few;
        are = row_put event_word old Row.EVENTS_MOST _ _ k.are (count_is d.shown) k.few at word d.event
            d.word_is _ e;
      }
