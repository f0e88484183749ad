-- An event enters: the place that its key finds is the one where document 01 inserts it. Assumes nothing.
use Rattle.std.specs.Prelude.{if◌then◌else◌}
use Prim.Native.Nat.{ℕ, ◌+◌, ◌≤◌, ◌<◌}
use native.Mathlib.Omega.{arith}
use mathlib.Core.Path.{◌≡◌, ◌∙◌, ap, fun_ext}
use mathlib.Core.List.{List, [], ◌∷◌}
use mathlib.Core.Bool.{Bool, true, false}
use lib.Dec.{leb, ltb}
use lib.ListN.{get_or, take, drop}
use Rattle.semantics.specs.Words.{insert}
use Rattle.semantics.specs.State.{State, Event, enter, sooner}
use Rattle.promises.specs.Laws.{AllOf, all_map}
use Rattle.base_numbers.specs.Row as Row
use Rattle.base_numbers.specs.Byte as Byte
use Rattle.base_ordered.specs.Lines.{inserted, place_of, event_key}
use Rattle.base_ordered.specs.Order.{Keyed, insert_placed, insert-length, sooner_key, event_below, event_key_low}
use Rattle.base_ordered.specs.Shown.{placed}
use Rattle.row_work.specs.Work.{EventSized}
use Rattle.row_process.specs.Process.{at_first}
use Rattle.row_lists.specs.Lists.{Entering, Putting}
use Rattle.row_lists.proofs.Events.{count_is, keys_there}

-- What all have where one more is inserted, that one has.
pub inserted_has : {A : Type 0} (P : A → Type 0) (b : A → A → Bool) (x : A) (xs : List A) → AllOf P (insert b x xs) → P x
unfolding insert
inserted_has P b x [] h = h.0
inserted_has P b x (y ∷ ys) h = by (b x y) (inserted_has P b x ys) h
  where
    by : (t : Bool) → (AllOf P (insert b x ys) → P x) → AllOf P (if t then x ∷ y ∷ ys else y ∷ insert b x ys) → P x
    by true i h = h.0
    by false i h = i h.1

module _ {w : List ℕ} {key word : ℕ} (d : Entering w key word) where
  abbrev s : State
  s = d.doing.is

  abbrev e : Event
  e = d.event

  is_sized : EventSized e
  unfolding enter
  is_sized = inserted_has EventSized sooner e s.events d.doing.after.events_ok

  pub key_low : key + 1 < Byte.EIGHT
  key_low = omega (arith, d.key_is, event_key_low e is_sized.time_low)

  keyed : Keyed sooner event_key e s.events
  keyed =
      all_map EventSized _ (λ f k. sooner_key e f is_sized.priority_ok k.priority_ok) s.events
      d.doing.before.events_ok

  module _ {at : ℕ} (found : at ≡ place_of (λ y. ltb y (key + 1))
      (take (get_or w Row.EVENTS 0) (take Row.EVENTS_MOST (drop Row.KEYS w)))) where
    pub place_is : inserted at e s.events ≡ enter e s.events
    unfolding enter
    place_is = ap (λ i. inserted i e s.events) place ∙ insert_placed sooner event_key e s.events keyed
      where
        place : at ≡ place_of (λ f. leb (event_key f) (event_key e)) s.events
        place =
            found
            ∙ ap (λ k. place_of (λ y. ltb y (k + 1)) (take (get_or w Row.EVENTS 0) (take Row.EVENTS_MOST (drop Row.KEYS w))))
            d.key_is
            ∙ placed event_key s.events Row.EVENTS_MOST _ _ (keys_there (at_first d.doing)).are
            (count_is (at_first d.doing)) _
            ∙ ap (λ q. place_of q s.events) (fun_ext (event_below e))

    unfoldable pub puts_in : at ≤ get_or w Row.EVENTS 0 → Putting w at key word
    unfolding enter
    puts_in l =
        let c = count_is (at_first d.doing) in
        let m = d.doing.after.events_few in
        record {
          event = e;
          key_is = d.key_is;
          word_is = d.word_is;
          shown = record {
            is = s;
            shows = d.doing.shows;
            sized = d.doing.before;
            given = (omega arith, omega (arith, m, insert-length sooner e s.events));
          };
        }
