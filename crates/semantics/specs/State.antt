-- The state of a run, the order of its lists, its parts changed one at a time, and the fresh state (document 01, "One step").
-- Assumes nothing.
use Rattle.std.specs.Prelude.{ℕ, ◌+◌, List, [], ◌∷◌, map, Bool, true, false, not, ◌&&◌, ◌||◌, eqb, ltb, length, get_or, set, replicate, ℤ, pos}
use Rattle.std.specs.Int.Signed.{lt_z}
use Rattle.semantics.specs.Words.{first_at, is_empty, keep, insert}
use Rattle.semantics.specs.Numbers as No
use Rattle.semantics.specs.Model.{Model, Entity, body}

-- A block that a process is in: the index of the action where it stands, and the rounds left, this one included.
pub record Frame : Type 0 where
  pub block : ℕ
  pub at : ℕ
  pub rounds : ℕ

-- A slave: its sync and its place.
pub record Slave : Type 0 where
  pub of : ℕ
  pub place : ℕ

-- A process. Its innermost block stands first; its slaves stand in the order claimed. One that is in no block is nobody: its
-- place is free.
pub record Process : Type 0 where
  pub number : ℕ
  pub priority : ℤ
  pub locals : List ℤ
  pub held : List ℕ
  pub slaves : List Slave
  pub frames : List Frame

-- What an entry of the event list does when it is first: it gives a process the floor, or it is a return notice.
pub data Notice : Type 0 where
  wakes : ℕ → Notice  -- the process in this place
  returns_r returns_b : ℕ → ℕ → ℕ → Notice  -- the resource or bin, the amount, the giver's number

pub record Event : Type 0 where
  pub time : ℕ
  pub priority : ℤ
  pub notice : Notice

-- One that waits in the blocked list or in a sync's waiting list.
pub record Waiter : Type 0 where
  pub priority : ℤ
  pub place : ℕ

pub data Floor : Type 0 where
  empty : Floor
  held_by : ℕ → Floor  -- by the process in this place

-- `processes` are the 64 places.
pub record State : Type 0 where
  pub clock : ℕ
  pub closed : Bool
  pub last : ℕ  -- the last number given
  pub globals : List ℤ
  pub free : List ℕ
  pub bins : List ℕ
  pub waiting : List (List Waiter)
  pub floor : Floor
  pub events : List Event
  pub blocked : List Waiter
  pub processes : List Process
  pub seeds : List ℕ  -- of the samplers

-- THE PARTS CHANGED one at a time.
abbrev make : ℕ → Bool → ℕ → List ℤ → List ℕ → List ℕ → List (List Waiter) → Floor → List Event → List Waiter → List Process
    → List ℕ → State
make c d l g f b w o e k p r =
    record {
      clock = c;
      closed = d;
      last = l;
      globals = g;
      free = f;
      bins = b;
      waiting = w;
      floor = o;
      events = e;
      blocked = k;
      processes = p;
      seeds = r;
    }

module _ (s : State) where
  abbrev pub at_clock : ℕ → State
  at_clock x =
      make x s.closed s.last s.globals s.free s.bins
      s.waiting s.floor s.events s.blocked s.processes s.seeds

  abbrev pub now_closed : State
  now_closed =
      make s.clock true s.last s.globals s.free s.bins
      s.waiting s.floor s.events s.blocked s.processes s.seeds

  abbrev pub with_last : ℕ → State
  with_last x =
      make s.clock s.closed x s.globals s.free s.bins
      s.waiting s.floor s.events s.blocked s.processes s.seeds

  abbrev pub with_globals : List ℤ → State
  with_globals x =
      make s.clock s.closed s.last x s.free s.bins
      s.waiting s.floor s.events s.blocked s.processes s.seeds

  abbrev pub with_free : List ℕ → State
  with_free x =
      make s.clock s.closed s.last s.globals x s.bins
      s.waiting s.floor s.events s.blocked s.processes s.seeds

  abbrev pub with_bins : List ℕ → State
  with_bins x =
      make s.clock s.closed s.last s.globals s.free x
      s.waiting s.floor s.events s.blocked s.processes s.seeds

  abbrev pub with_waiting : List (List Waiter) → State
  with_waiting x =
      make s.clock s.closed s.last s.globals s.free s.bins
      x s.floor s.events s.blocked s.processes s.seeds

  abbrev pub with_floor : Floor → State
  with_floor x =
      make s.clock s.closed s.last s.globals s.free s.bins
      s.waiting x s.events s.blocked s.processes s.seeds

  abbrev pub with_events : List Event → State
  with_events x =
      make s.clock s.closed s.last s.globals s.free s.bins
      s.waiting s.floor x s.blocked s.processes s.seeds

  abbrev pub with_blocked : List Waiter → State
  with_blocked x =
      make s.clock s.closed s.last s.globals s.free s.bins
      s.waiting s.floor s.events x s.processes s.seeds

  abbrev pub with_processes : List Process → State
  with_processes x =
      make s.clock s.closed s.last s.globals s.free s.bins
      s.waiting s.floor s.events s.blocked x s.seeds

  abbrev pub with_seeds : List ℕ → State
  with_seeds x =
      make s.clock s.closed s.last s.globals s.free s.bins
      s.waiting s.floor s.events s.blocked s.processes x

module _ (q : Process) where
  abbrev like : ℤ → List ℤ → List ℕ → List Slave → List Frame → Process
  like p l h s f = record { number = q.number; priority = p; locals = l; held = h; slaves = s; frames = f }

  abbrev pub with_priority : ℤ → Process
  with_priority x = like x q.locals q.held q.slaves q.frames

  abbrev pub with_locals : List ℤ → Process
  with_locals x = like q.priority x q.held q.slaves q.frames

  abbrev pub with_held : List ℕ → Process
  with_held x = like q.priority q.locals x q.slaves q.frames

  abbrev pub with_slaves : List Slave → Process
  with_slaves x = like q.priority q.locals q.held x q.frames

  abbrev pub with_frames : List Frame → Process
  with_frames x = like q.priority q.locals q.held q.slaves x

-- PLACES. The process in place p, or nobody; the state with q there; the lowest-numbered free place.
abbrev pub nobody : Process
nobody = record { number = 0; priority = pos 0; locals = []; held = []; slaves = []; frames = [] }

abbrev pub is_free : Process → Bool
is_free q = is_empty q.frames

abbrev pub process : State → ℕ → Process
process s p = get_or s.processes p nobody

abbrev pub put : ℕ → Process → State → State
put p q s = with_processes s (set s.processes p q)

abbrev pub free_place : State → ℕ
free_place s = first_at is_free s.processes

-- How many live.
abbrev pub living : State → ℕ
living s = length (keep (λ q. not (is_free q)) s.processes)

-- ORDER. The event list is ordered by time, then the higher priority comes first; a notice goes behind its equals.
abbrev pub sooner : Event → Event → Bool
sooner e f = ltb e.time f.time || (eqb e.time f.time && lt_z f.priority e.priority)

unfoldable pub enter : Event → List Event → List Event
unfolding insert
enter e es = insert sooner e es

-- Enter the process in place p at time t, by its priority.
unfoldable pub wake : ℕ → ℕ → State → State
unfolding enter
wake t p s =
    with_events s (enter (record { time = t; priority = (process s p).priority; notice = wakes p }) s.events)

-- The blocked list and the waiting lists are ordered by priority, the higher first; one that joins goes behind its equals.
abbrev pub higher : Waiter → Waiter → Bool
higher w v = lt_z v.priority w.priority

unfoldable pub join : State → ℕ → List Waiter → List Waiter
unfolding insert
join s p ws = insert higher (record { priority = (process s p).priority; place = p }) ws

-- BLOCKS. Go past the action where the process stands; go into block b for n rounds from there. `[]` isn't reached: one in no
-- block stands at no action.
unfoldable pub onward : List Frame → List Frame
onward [] = []
onward (f ∷ fs) = record { block = f.block; at = f.at + 1; rounds = f.rounds } ∷ fs

unfoldable pub past : Process → Process
unfolding onward
past q = with_frames q (onward q.frames)

unfoldable pub into : ℕ → ℕ → Process → Process
into n b q = with_frames q (record { block = b; at = 0; rounds = n } ∷ q.frames)

-- A NEW PROCESS of class c, with what it is handed: numbered one above the last given, priority 0, locals 0, in the lowest free
-- place, entered at time t.
abbrev pub newcomer : Model → ℕ → ℕ → List ℕ → Process
newcomer m n c h =
    record {
      number = n;
      priority = pos 0;
      locals = replicate No.locals (pos 0);
      held = h;
      slaves = [];
      frames = record { block = body m c; at = 0; rounds = 1 } ∷ [];
    }

unfoldable pub begin : Model → ℕ → ℕ → List ℕ → State → State
unfolding wake
begin m c t h s =
    let p : ℕ = free_place s in wake t p (put p (newcomer m (s.last + 1) c h) (with_last s (s.last + 1)))

unfoldable pub begin_all : Model → List Entity → State → State
unfolding begin
begin_all m [] s = s
begin_all m (e ∷ es) s = begin_all m es (begin m e.class e.offset (map (λ t. 0) m.totals) s)

-- FRESH: clock 0, the seeds that are declared, and the ENTITY processes numbered 1, 2, .. entered in file order at their offsets.
abbrev pub bare : Model → State
bare m =
    make 0 false 0 m.vars m.totals m.amounts (replicate m.syncs []) empty [] [] (replicate No.places nobody)
    (map (λ x. x.seed) m.samplers)

unfoldable pub fresh : Model → State
unfolding begin_all
fresh m = begin_all m m.entities (bare m)
