-- The state that a row of words shows, whatever the words are, and when an open run that is handed in as words is sound.
-- Assumes nothing.
use Rattle.std.specs.Prelude.{ℕ, zero, suc, ◌-◌, ◌/◌, ◌%◌, Bool, true, false, ◌&&◌, length, drop, if◌then◌else◌}
use mathlib.Core.List.{List, [], ◌∷◌, ◌++◌, map}
use Rattle.std.proofs.Math.Dec.{eqb}
use Rattle.std.proofs.Math.ListN.{get_or, take}
use Rattle.semantics.specs.Numbers as No
use Rattle.semantics.specs.Model.{Model}
use Rattle.semantics.specs.Decode.{refused, accepted, decode}
use Rattle.semantics.specs.State.{State, Process, Frame, Slave, Waiter, Event, Notice, wakes, returns_r, returns_b}
use Rattle.semantics.specs.State.{Floor, empty, held_by}
use Rattle.semantics.specs.Sound.{sound_in}
use Rattle.base_numbers.specs.Row as Row
use Rattle.base_numbers.specs.Process as Process
use Rattle.base_numbers.specs.Word as Word
use Rattle.base_numbers.specs.Limit as Limit
use Rattle.base_numbers.specs.Code as Code
use Rattle.base_i32.specs.Code.{value_of}
use Rattle.base_ordered.specs.Lines.{kind_of, number_of, amount_of, giver_of}
use Rattle.row_work.specs.Work.{work_of}

-- n words of a row, from a place on.
abbrev pub cut : ℕ → ℕ → List ℕ → List ℕ
cut from n w = take n (drop from w)

-- WORDS. What each shows, as `Work` packs it.
abbrev pub frame_of : ℕ → Frame
frame_of x = record { block = x % Word.BLOCKS; at = x / Word.ACTION % Word.ACTIONS; rounds = x / Word.ROUND }

abbrev pub slave_of : ℕ → Slave
slave_of x = record { of = x / Word.SYNC; place = x % Word.PLACES }

abbrev pub waiter_of : ℕ → Waiter
waiter_of x = record { priority = value_of (Code.HIGHEST - x / Word.KEY); place = x % Word.PLACES }

abbrev pub notice_of : ℕ → Notice
notice_of x =
    if eqb (kind_of x) 0 then wakes (number_of x)
    else if eqb (kind_of x) 1 then returns_r (number_of x) (amount_of x) (giver_of x)
    else returns_b (number_of x) (amount_of x) (giver_of x)

abbrev pub event_of : ℕ → ℕ → Event
event_of key word =
    record {
      time = key / Word.TIME;
      priority = value_of (Code.HIGHEST - key % Word.RANKS);
      notice = notice_of word;
    }

abbrev pub floor_of : ℕ → Floor
floor_of x = if eqb x 0 then empty else held_by (x - 1)

-- LISTS OF WORDS. The outermost block stands first in a row, and last in a process.
unfoldable pub frames_of : List ℕ → List Frame
frames_of [] = []
frames_of (x ∷ xs) = frames_of xs ++ frame_of x ∷ []

unfoldable pub events_of : List ℕ → List ℕ → List Event
events_of [] ds = []
events_of (k ∷ ks) [] = []
events_of (k ∷ ks) (d ∷ ds) = event_of k d ∷ events_of ks ds

abbrev pub waiters_of : ℕ → List ℕ → List Waiter
waiters_of n row = map waiter_of (take n row)

-- A waiting list for each count, in rows of one width.
unfoldable pub waiting_of : List ℕ → List ℕ → List (List Waiter)
waiting_of [] row = []
waiting_of (n ∷ ns) row = waiters_of n (take Row.WAITERS_MOST row) ∷ waiting_of ns (drop Row.WAITERS_MOST row)

-- A PROCESS, of its row. One that is in d blocks has n of something: nothing, where it is in none.
abbrev pub seated : ℕ → ℕ → ℕ
seated zero n = 0
seated (suc d) n = n

unfoldable pub process_of : ℕ → List ℕ → Process
unfolding frames_of
process_of resources row =
    record {
      number = get_or row Process.NUMBER 0;
      priority = value_of (get_or row Process.PRIORITY 0);
      locals = map value_of (take (seated (get_or row Process.DEPTH 0) No.locals) (cut Process.LOCALS No.locals row));
      held = take (seated (get_or row Process.DEPTH 0) resources) (cut Process.HELD Limit.THINGS row);
      slaves = map slave_of (take (get_or row Process.SLAVES 0) (cut Process.OWNED Process.OWNED_MOST row));
      frames = frames_of (take (get_or row Process.DEPTH 0) (cut Process.BLOCKS Limit.DEPTH row));
    }

unfoldable pub processes_of : ℕ → ℕ → List ℕ → List Process
unfolding process_of
processes_of resources zero row = []
processes_of resources (suc n) row =
    process_of resources (take Process.WORDS row) ∷ processes_of resources n (drop Process.WORDS row)

-- THE STATE that the work w shows, for a model with so many resources, bins, syncs, variables and samplers.
module _ (resources bins syncs variables samplers : ℕ) where
  unfoldable pub view_by : List ℕ → State
  unfolding events_of waiting_of processes_of
  view_by w =
      record {
        clock = get_or w Row.CLOCK 0;
        closed = eqb (get_or w Row.CLOSED 0) 1;
        last = get_or w Row.LAST 0;
        globals = map value_of (take variables (cut Row.GLOBALS Limit.THINGS w));
        free = take resources (cut Row.FREE Limit.THINGS w);
        bins = take bins (cut Row.BINS Limit.THINGS w);
        waiting = waiting_of (take syncs (cut Row.WAITS Limit.THINGS w)) (cut Row.WAITING Row.WAITERS_ALL w);
        floor = floor_of (get_or w Row.FLOOR 0);
        events =
            events_of (take (get_or w Row.EVENTS 0) (cut Row.KEYS Row.EVENTS_MOST w))
            (take (get_or w Row.EVENTS 0) (cut Row.NOTICES Row.EVENTS_MOST w));
        blocked = waiters_of (get_or w Row.BLOCKED 0) (cut Row.QUEUE Row.WAITERS_MOST w);
        processes = processes_of resources No.places (cut Row.PROCESSES Row.PROCESSES_ALL w);
        seeds = take samplers (cut Row.SEEDS Limit.SAMPLERS w);
      }

abbrev pub view_in : Model → List ℕ → State
view_in m w = view_by (length m.totals) (length m.amounts) m.syncs (length m.vars) (length m.samplers) w

-- SOUND. What is not used is zero: a row is sound only if it is the one form of the state that it shows, and that is sound.
unfoldable pub same_row : List ℕ → List ℕ → Bool
same_row [] [] = true
same_row [] (y ∷ ys) = false
same_row (x ∷ xs) [] = false
same_row (x ∷ xs) (y ∷ ys) = eqb x y && same_row xs ys

unfoldable pub sound_row : List ℕ → List ℕ → Bool
unfolding decode same_row work_of view_by sound_in
sound_row bs w =
    elim (decode bs) [
      | refused n p ↦ false
      | accepted m ↦ same_row w (work_of (view_in m w)) && sound_in m (view_in m w)
    ]
