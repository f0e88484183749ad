-- What is changed of the lists in the work, and what is read there. Assumes nothing.
use Rattle.std.specs.Prelude.{ℕ, ◌≤◌, ◌<◌, ◌≡◌, List, [], ◌∷◌, length, get_or, set, drop}
use Rattle.std.proofs.Common.{sym, ◌∙◌, ap}
use Rattle.semantics.specs.Numbers as No
use Rattle.semantics.specs.Numbers.{of_returns}
use Rattle.semantics.specs.State.{State, Event, Notice, Waiter, process, at_clock, with_events, with_blocked, with_waiting}
use Rattle.semantics.specs.State.{enter, join}
use Rattle.base_numbers.specs.Row as Row
use Rattle.base_ordered.specs.Lines.{inserted, removed, event_key, event_word, data_of}
use Rattle.row_work.specs.Work.{work_of, Doing}
use Rattle.row_process.specs.Process.{Shown, Lives}

-- Nothing is asked of a state.
abbrev pub Any : State → Type 0
Any s = Unit {0}

-- EVENTS. The event whose key and word these are enters;
pub record Entering (w : List ℕ) (key word : ℕ) : Type 0 where
  pub event : Event
  pub key_is : key ≡ event_key event
  pub word_is : word ≡ event_word event
  pub doing : Doing w Any (λ s. with_events s (enter event s.events))

abbrev pub Entered : (w : List ℕ) (key word : ℕ) → List ℕ → Type 0
Entered w key word x =
    (d : Entering w key word) → x ≡ work_of (with_events d.doing.is (enter d.event d.doing.is.events))

-- or is put in at a place.
abbrev pub Room : ℕ → State → Type 0
Room at s = (at ≤ length s.events) × (length s.events < Row.EVENTS_MOST)

pub record Putting (w : List ℕ) (at key word : ℕ) : Type 0 where
  pub event : Event
  pub key_is : key ≡ event_key event
  pub word_is : word ≡ event_word event
  pub shown : Shown w (Room at)

abbrev pub Put : (w : List ℕ) (at key word : ℕ) → List ℕ → Type 0
Put w at key word x =
    (d : Putting w at key word) → x ≡ work_of (with_events d.shown.is (inserted at d.event d.shown.is.events))

-- A return enters now.
abbrev pub returned : Notice → State → State
returned n s = with_events s (enter (record { time = s.clock; priority = of_returns; notice = n }) s.events)

pub record Notifying (w : List ℕ) (word : ℕ) : Type 0 where
  pub notice : Notice
  pub word_is : word ≡ data_of notice
  pub doing : Doing w Any (returned notice)

abbrev pub Notified : (w : List ℕ) (word : ℕ) → List ℕ → Type 0
Notified w word x = (d : Notifying w word) → x ≡ work_of (returned d.notice d.doing.is)

-- The first of the list leaves it, and the clock becomes its time.
pub record Due (s : State) : Type 0 where
  pub first : Event
  pub behind : List Event
  pub events_are : s.events ≡ first ∷ behind

abbrev pub Dropped : (w x : List ℕ) → Type 0
Dropped w x = (v : Shown w Due) → x ≡ work_of (with_events v.is v.given.behind)

unfoldable pub without_first : State → List Event → State
without_first s [] = s
without_first s (e ∷ es) = with_events (at_clock s e.time) es

unfoldable pub first_out : State → State
unfolding without_first
first_out s = without_first s s.events

pub record FirstOut (w : List ℕ) (r : ℕ) (x : List ℕ) (d : Doing w Due first_out) : Type 0 where
  pub word_is : r ≡ data_of d.given.first.notice
  pub done : x ≡ work_of (first_out d.is)

-- It is put back, with the clock as it was.
pub record PuttingBack (w : List ℕ) (clock key word : ℕ) : Type 0 where
  pub event : Event
  pub key_is : key ≡ event_key event
  pub word_is : word ≡ event_word event
  pub doing : Doing w Any (λ s. with_events (at_clock s clock) (event ∷ s.events))

abbrev pub PutBack : (w : List ℕ) (clock key word : ℕ) → List ℕ → Type 0
PutBack w clock key word x =
    (d : PuttingBack w clock key word)
    → x ≡ work_of (with_events (at_clock d.doing.is clock) (d.event ∷ d.doing.is.events))

-- That undoes what was done.
pub put_back_undoes : (s : State) (d : Due s)
    → with_events (at_clock (first_out s) s.clock) (d.first ∷ (first_out s).events) ≡ s
unfolding first_out without_first
put_back_undoes s d =
    ap (λ l. with_events (at_clock (without_first s l) s.clock) (d.first ∷ (without_first s l).events)) d.events_are
    ∙ ap (with_events s) (sym d.events_are)

-- WAITERS. The process in place p as one that waits.
abbrev pub waiter_of : State → ℕ → Waiter
waiter_of s p = record { priority = (process s p).priority; place = p }

-- The blocked list with p joined, and without the one at k.
abbrev pub join_blocked : ℕ → State → State
join_blocked p s = with_blocked s (join s p s.blocked)

abbrev pub unblocked : ℕ → State → State
unblocked k s = with_blocked s (removed k s.blocked)

abbrev pub IsBlocked : ℕ → State → Type 0
IsBlocked k s = k < length s.blocked

-- The waiting list of sync i with p joined, and without its first.
pub record Becomes (i p : ℕ) (s : State) : Type 0 where
  pub lives : Lives p s
  pub there : i < length s.waiting

abbrev pub join_waiting : (i p : ℕ) → State → State
join_waiting i p s = with_waiting s (set s.waiting i (join s p (get_or s.waiting i [])))

pub record Waits (i : ℕ) (s : State) : Type 0 where
  pub there : i < length s.waiting
  pub first : Waiter
  pub behind : List Waiter
  pub waiting_are : get_or s.waiting i [] ≡ first ∷ behind

abbrev pub taken_waiting : ℕ → State → State
taken_waiting i s = with_waiting s (set s.waiting i (drop 1 (get_or s.waiting i [])))

pub record TakenWaiting (w : List ℕ) (i r : ℕ) (x : List ℕ) (d : Doing w (Waits i) (taken_waiting i)) : Type 0 where
  pub place_is : r ≡ d.given.first.place
  pub place_low : r < No.places
  pub done : x ≡ work_of (taken_waiting i d.is)
