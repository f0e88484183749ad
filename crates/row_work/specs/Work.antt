-- The state of a run as one row of numbers, the work, which the engine reads and writes in place; and how large a state may be
-- to be shown by it. Assumes nothing.
use Rattle.std.specs.Prelude.{ℕ, ◌+◌, ◌*◌, ◌≤◌, ◌<◌, ◌≡◌, List, [], ◌∷◌, ◌++◌, map, Bool, true, false, length}
use Rattle.semantics.specs.Words.{collect}
use Rattle.semantics.specs.Numbers as No
use Rattle.semantics.specs.State.{State, Process, Frame, Slave, Waiter, Event, Notice, wakes, returns_r, returns_b}
use Rattle.semantics.specs.State.{Floor, empty, held_by}
use Rattle.promises.specs.Laws.{AllOf}
use Rattle.promises.specs.Fit.{I32}
use Rattle.promises.specs.Sound.{Seed}
use Rattle.base_numbers.specs.Row as Row
use Rattle.base_numbers.specs.Process as Process
use Rattle.base_numbers.specs.Word as Word
use Rattle.base_numbers.specs.Limit as Limit
use Rattle.base_i32.specs.Code.{code}
use Rattle.base_ordered.specs.Lines.{pad, event_key, waiter_word, data_of}
use Rattle.base_places.specs.Places.{living_of}
use Rattle.row_work.specs.Laid.{laid}

-- A PROCESS has a row of numbers (places: base_numbers, Process): its number, the code of its priority, how many blocks it is
-- in, how many slaves it has; the codes of its locals; what it holds; its blocks, the outermost first; its slaves in the order
-- claimed. What is not used is 0.
abbrev pub frame_word : Frame → ℕ
frame_word f = f.block + Word.BLOCKS * (f.at + Word.ACTIONS * f.rounds)

unfoldable pub stacked : List Frame → List ℕ
stacked [] = []
stacked (f ∷ fs) = stacked fs ++ frame_word f ∷ []

abbrev pub slave_word : Slave → ℕ
slave_word x = Word.SYNC * x.of + x.place

abbrev pub process_parts : Process → List (List ℕ)
process_parts q =
    (q.number ∷ code q.priority ∷ length q.frames ∷ length q.slaves ∷ [])
    ∷ pad No.locals (map code q.locals)
    ∷ pad Limit.THINGS q.held
    ∷ pad Limit.DEPTH (stacked q.frames)
    ∷ pad Process.OWNED_MOST (map slave_word q.slaves)
    ∷ []

abbrev pub process_widths : List ℕ
process_widths = Process.LOCALS ∷ No.locals ∷ Limit.THINGS ∷ Limit.DEPTH ∷ Process.OWNED_MOST ∷ []

unfoldable pub process_row : Process → List ℕ
unfolding laid stacked
process_row q = laid (process_parts q)

-- THE WORK (places: base_numbers, Row): first the clock, whether the run is closed, the last number given, who has the floor (0
-- for nobody, else the place and 1), the living places as bits, how many events and how many blocked there are, and 0; what is
-- free; the bins; the codes of the variables; how many wait for each sync; the blocked; the keys of the events; what they do; a
-- row for each sync's waiting list; the processes' rows; the seeds.
abbrev pub closed_word : Bool → ℕ
closed_word true = 1
closed_word false = 0

abbrev pub floor_word : Floor → ℕ
floor_word empty = 0
floor_word (held_by p) = p + 1

abbrev pub head_of : State → List ℕ
head_of s =
    s.clock ∷ closed_word s.closed ∷ s.last ∷ floor_word s.floor ∷ living_of s.processes
    ∷ length s.events ∷ length s.blocked ∷ 0 ∷ []

abbrev pub waiters_row : List Waiter → List ℕ
waiters_row ws = pad Row.WAITERS_MOST (map waiter_word ws)

abbrev pub work_parts : State → List (List ℕ)
work_parts s =
    head_of s
    ∷ pad Limit.THINGS s.free
    ∷ pad Limit.THINGS s.bins
    ∷ pad Limit.THINGS (map code s.globals)
    ∷ pad Limit.THINGS (map length s.waiting)
    ∷ waiters_row s.blocked
    ∷ pad Row.EVENTS_MOST (map event_key s.events)
    ∷ pad Row.EVENTS_MOST (map (λ e. data_of e.notice) s.events)
    ∷ pad Row.WAITERS_ALL (collect waiters_row s.waiting)
    ∷ collect process_row s.processes
    ∷ pad Limit.SAMPLERS s.seeds
    ∷ []

abbrev pub work_widths : List ℕ
work_widths =
    Row.FREE ∷ Limit.THINGS ∷ Limit.THINGS ∷ Limit.THINGS ∷ Limit.THINGS ∷ Row.WAITERS_MOST ∷ Row.EVENTS_MOST ∷ Row.EVENTS_MOST
    ∷ Row.WAITERS_ALL ∷ Row.PROCESSES_ALL ∷ Limit.SAMPLERS ∷ []

-- Which of the parts the seeds are, from 0 on.
abbrev pub seeds_part : ℕ
seeds_part = 10

unfoldable pub work_of : State → List ℕ
unfolding laid process_row
work_of s = laid (work_parts s)

-- HOW LARGE a state may be, in numbers alone: its lists fit into their rows and its numbers into words. Every state of a sound
-- run is so, also in the middle of a step (`Sized`).
pub record FrameSized (f : Frame) : Type 0 where
  pub block_low : f.block < Limit.BLOCKS
  pub at_low : f.at ≤ Limit.ACTIONS
  pub rounds_low : f.rounds < Word.ROUNDS

pub record SlaveSized (x : Slave) : Type 0 where
  pub of_low : x.of < Limit.THINGS
  pub place_low : x.place < No.places

pub record ProcessSized (q : Process) : Type 0 where
  pub number_low : q.number ≤ No.last_number
  pub priority_ok : I32 q.priority
  pub locals_few : length q.locals ≤ No.locals
  pub locals_ok : AllOf I32 q.locals
  pub held_few : length q.held ≤ Limit.THINGS
  pub held_low : AllOf (λ n. n ≤ Limit.AMOUNT) q.held
  pub frames_few : length q.frames ≤ Limit.DEPTH
  pub frames_ok : AllOf FrameSized q.frames
  pub slaves_few : length q.slaves ≤ No.places
  pub slaves_ok : AllOf SlaveSized q.slaves

pub record WaiterSized (w : Waiter) : Type 0 where
  pub priority_ok : I32 w.priority
  pub place_low : w.place < No.places

pub record WaitersSized (ws : List Waiter) : Type 0 where
  pub few : length ws ≤ Row.WAITERS_MOST
  pub each : AllOf WaiterSized ws

abbrev pub NoticeSized : Notice → Type 0
NoticeSized (wakes p) = p < No.places
NoticeSized (returns_r i n g) = (i < Limit.THINGS) × ((n ≤ Limit.AMOUNT) × (g ≤ No.last_number))
NoticeSized (returns_b i n g) = (i < Limit.THINGS) × ((n ≤ Limit.AMOUNT) × (g ≤ No.last_number))

pub record EventSized (e : Event) : Type 0 where
  pub time_low : e.time ≤ No.latest
  pub priority_ok : I32 e.priority
  pub notice_ok : NoticeSized e.notice

abbrev pub FloorSized : Floor → Type 0
FloorSized empty = Unit {0}
FloorSized (held_by p) = p < No.places

pub record Sized (s : State) : Type 0 where
  pub clock_low : s.clock ≤ No.latest
  pub last_low : s.last ≤ No.last_number
  pub floor_ok : FloorSized s.floor
  pub free_few : length s.free ≤ Limit.THINGS
  pub free_low : AllOf (λ n. n ≤ Limit.AMOUNT) s.free
  pub bins_few : length s.bins ≤ Limit.THINGS
  pub bins_low : AllOf (λ n. n ≤ No.full_bin) s.bins
  pub globals_few : length s.globals ≤ Limit.THINGS
  pub globals_ok : AllOf I32 s.globals
  pub syncs_few : length s.waiting ≤ Limit.THINGS
  pub waiting_ok : AllOf WaitersSized s.waiting
  pub blocked_ok : WaitersSized s.blocked
  pub events_few : length s.events ≤ Row.EVENTS_MOST
  pub events_ok : AllOf EventSized s.events
  pub places_64 : length s.processes ≡ No.places
  pub processes_ok : AllOf ProcessSized s.processes
  pub seeds_few : length s.seeds ≤ Limit.SAMPLERS
  pub seeds_ok : AllOf Seed s.seeds

-- ONE CHANGE f of the state that w shows, where P holds of it: the states before and after it can be shown.
pub record Doing (w : List ℕ) (P : State → Type 0) (f : State → State) : Type 0 where
  pub is : State
  pub shows : w ≡ work_of is
  pub before : Sized is
  pub after : Sized (f is)
  pub given : P is

-- It was made: x shows the state after it.
abbrev pub Done : (w : List ℕ) (P : State → Type 0) (f : State → State) → List ℕ → Type 0
Done w P f x = (d : Doing w P f) → x ≡ work_of (f d.is)
