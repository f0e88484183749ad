-- Nobody has the floor: the first of the event list leaves it, and is put back where its step faults. Assumes nothing.
use Rattle.std.specs.Prelude.{if◌then◌else◌}
use Prim.Native.Nat.{ℕ, ◌+◌}
use native.Mathlib.Omega.{arith}
use mathlib.Core.Path.{◌≡◌, refl, sym, ◌∙◌, ap}
use mathlib.Core.List.{List, [], ◌∷◌}
use mathlib.Core.Bool.{Bool, true, false}
use lib.ListN.{length, get_or}
use Rattle.semantics.specs.Model.{Model}
use Rattle.semantics.specs.State.{State, Event, Floor, empty, held_by, with_events, at_clock}
use Rattle.semantics.specs.Step.{moves, occurs, next, step}
use Rattle.semantics.specs.Run.{Before, is_closed, goes_on}
use Rattle.promises.specs.Sound.{on_floor, noticed, gives, Held}
use Rattle.promises.specs.Moves.{recount, first_event_out}
use Rattle.promises.specs.Safe.{idle_stops, step_safe}
use Rattle.base_numbers.specs.Row as Row
use Rattle.base_ordered.specs.Lines.{event_key, event_word}
use Rattle.row_work.specs.Work.{floor_word, work_of, EventSized, Sized}
use Rattle.row_work.specs.Underway.{in_state, still_sized}
use Rattle.row_work.specs.Head.{clock_at, floor_at}
use Rattle.row_work.specs.Events.{first_key}
use Rattle.row_lists.specs.Lists.{Due, without_first, first_out, PuttingBack}
use Rattle.row_work.specs.Work as Work
use Rattle.act_floor.specs.Acting.{Going, Stepped}
use Rattle.act_floor.specs.Running.{runs}
use Rattle.act_floor.specs.Floor as Floor
use Rattle.act_step.specs.Steps.{Floored, Occurring}
use Rattle.act_step.proofs.Undone as Undone

-- WHO HAS THE FLOOR, by its word.
free_floor : (o : Floor) → floor_word o ≡ 0 → o ≡ empty
free_floor empty e = refl
free_floor (held_by p) e = absurd (omega arith)

pub had_floor : (p : ℕ) (o : Floor) → (floor_word o ≡ 0 → ⊥) → p + 1 ≡ floor_word o → o ≡ held_by p
had_floor p empty h e = absurd (h refl)
had_floor p (held_by q) h e = ap held_by (omega arith)

open_still : (c : Bool) (x : Before) → ◌≡◌ {A = Before} (if c then is_closed else x) goes_on → c ≡ false
open_still true x e = absurd (idle_stops true e)
open_still false x e = refl

module _ {bs map w : List ℕ} (v : Going bs map w) where
  abbrev m : Model
  m = v.running.run.model

  abbrev s : State
  s = v.running.run.is

  pub is_sized : Sized s
  is_sized = Floor.is_sized (runs v.running)

  pub work_long : length w ≡ Row.WORDS
  work_long = Floor.run_long (runs v.running)

  pub floor_word_lem : get_or w 3 0 ≡ floor_word s.floor
  floor_word_lem = ap (λ l. get_or l 3 0) v.running.run.shows ∙ floor_at s

  -- SOMEBODY.
  abbrev pub floored : (p : ℕ) → (get_or w 3 0 ≡ 0 → ⊥) → p + 1 ≡ get_or w 3 0 → Floored bs map w p
  floored p h e =
      record {
        running = v.running;
        on_floor = had_floor p s.floor (λ z. h (floor_word_lem ∙ z)) (e ∙ floor_word_lem);
      }

  pub moved_as : (p : ℕ) → (get_or w 3 0 ≡ 0 → ⊥) → p + 1 ≡ get_or w 3 0 → step m s ≡ moves m s p
  unfolding step
  moved_as p h e =
      ap (λ o. elim o [ held_by p ↦ moves m s p | empty ↦ next m s s.events ]) (floored p h e).on_floor

  pub not_closed : s.closed ≡ false
  not_closed = open_still s.closed _ v.goes_on

  -- NOBODY.
  module _ (word : get_or w 3 0 ≡ 0) where
    pub nobody_has : s.floor ≡ empty
    nobody_has = free_floor s.floor (sym floor_word_lem ∙ word)

    pub due : Due s
    due = by s.events refl
      where
        by : (es : List Event) → s.events ≡ es → Due s
        by [] e = absurd (idle_stops s.closed (rw (nobody_has, e) at v.goes_on))
        by (x ∷ xs) e = record { first = x; behind = xs; events_are = e }

    abbrev e : Event
    e = due.first

    -- The state without it.
    abbrev later : State
    later = with_events (at_clock s e.time) due.behind

    pub out_is : first_out s ≡ later
    unfolding first_out without_first
    out_is = ap (without_first s) due.events_are

    pub as_held : Held m (with_events s (e ∷ due.behind)) s.blocked (λ k. 0) (λ j. 0)
    as_held =
        rw (sym due.events_are) (recount v.running.sound (λ k. ap (on_floor k) (sym nobody_has)) (λ j. refl))

    pub later_held : Held m later s.blocked (λ k. noticed k e.notice) (λ j. gives j e.notice)
    later_held = first_event_out as_held (λ k. omega arith) (λ j. omega arith)

    pub later_sized : Sized later
    later_sized = still_sized v.running.run later later_held (rw nobody_has tt)

    pub e_sized : EventSized e
    e_sized = (rw due.events_are at is_sized.events_ok).0

    abbrev pub taking : Work.Doing w Due first_out
    taking =
        record {
          is = s;
          shows = v.running.run.shows;
          before = is_sized;
          after = rw out_is later_sized;
          given = due;
        }

    -- u is the work without it, and d its word.
    module _ {u : List ℕ} {d : ℕ} (word_is : d ≡ event_word e) (left : u ≡ work_of (first_out s)) where
      pub u_is : u ≡ work_of later
      u_is = left ∙ ap work_of out_is

      abbrev pub occurring : Occurring bs map u d
      occurring =
          record {
            run = in_state v.running.run later u_is;
            mapped = v.running.mapped;
            notice = e.notice;
            word_is = word_is;
            notice_small = e_sized.notice_ok;
            not_closed = not_closed;
            nobody_has = nobody_has;
            holds = later_held;
            priority = e.priority;
            tells = as_held.events_ok.0.tells;
          }

      stepped_as : step m s ≡ occurs m later e.notice
      unfolding step next
      stepped_as =
          ap (λ o. elim o [ held_by p ↦ moves m s p | empty ↦ next m s s.events ]) nobody_has
          ∙ ap (next m s) due.events_are

      module _ (f l : ℕ) (w' : List ℕ) (at : ℕ) (out out' : List ℕ)
          (done : Stepped (occurs m later e.notice) f l u w' at out out') where
        pub occurred : f ≡ 0 → Stepped (step m s) f l w w' at out out'
        occurred z =
            rw stepped_as
            (Undone.went (occurs m later e.notice) f l u w' at out out' done
            (rw stepped_as at (step_safe m s v.running.sound v.goes_on)) z w)

        module _ (not0 : f ≡ 0 → ⊥) {c k : ℕ} (clock_is : c ≡ get_or w 0 0) (key_is : k ≡ get_or w 200 0) where
          clock_was : c ≡ s.clock
          clock_was = clock_is ∙ ap (λ x. get_or x 0 0) v.running.run.shows ∙ clock_at s

          pub key_was : k ≡ event_key e
          key_was =
              key_is ∙ ap (λ x. get_or x 200 0) v.running.run.shows
              ∙ first_key s is_sized e due.behind due.events_are

          pub back_again : with_events (at_clock later c) (e ∷ due.behind) ≡ s
          back_again =
              ap (λ x. with_events (at_clock later x) (e ∷ due.behind)) clock_was
              ∙ ap (with_events s) (sym due.events_are)

          abbrev pub putting_back : PuttingBack w' c k d
          putting_back =
              record {
                event = e;
                key_is = key_was;
                word_is = word_is;
                doing =
                    record {
                      is = later;
                      shows =
                          Undone.still (occurs m later e.notice) f l u w' at out out' done not0 ∙ u_is;
                      before = later_sized;
                      after = rw back_again is_sized;
                      given = tt;
                    };
              }

          pub undone : {x : List ℕ} → x ≡ work_of (with_events (at_clock later c) (e ∷ due.behind))
              → Stepped (step m s) f l w x at out out'
          undone {x} h =
              rw stepped_as
              (Undone.faulted (occurs m later e.notice) f l u w' at out out' done not0 w x
              (λ q. h ∙ ap work_of back_again ∙ sym v.running.run.shows))
