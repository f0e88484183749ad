-- What holds of a sound run, as propositions: the clauses of document 01, counted. `Decides` shows that sound_in tests exactly
-- this.
-- Assumes nothing.
use Rattle.std.specs.Prelude.{ℕ, suc, ◌+◌, ◌≤◌, ◌<◌, ◌≡◌, List, [], ◌∷◌, true, length, get_or, ℤ, pos, negsuc}
use Rattle.semantics.specs.Numbers as No
use Rattle.semantics.specs.Numbers.{lowest, of_returns}
use Rattle.semantics.specs.Model.{Model}
use Rattle.semantics.specs.State.{State, Process, Frame, Slave, Waiter, Event, Notice, wakes, returns_r, returns_b, Floor, empty}
use Rattle.semantics.specs.State.{held_by, nobody}
use Rattle.semantics.specs.Claim.{stands_in}
use Rattle.semantics.specs.Sound.{chained, asks_at}
use Rattle.promises.specs.Laws.{AllOf, Ordered, over, only, once}
use Rattle.promises.specs.Fit.{I32, Within}

-- The order of whole numbers, in a form that omega reads.
abbrev pub up : ℤ → ℕ
up (pos n) = suc n
up (negsuc n) = 0

abbrev pub down : ℤ → ℕ
down (pos n) = 0
down (negsuc n) = suc n

pub record Below (x y : ℤ) : Type 0 where
  pub ups : up x ≤ up y
  pub downs : down y ≤ down x

-- COUNTS. 1 where somebody lives; how often place k is listed: on the floor, in the event list, in a list of waiters, in all
-- waiting lists, among a process's slaves, among all slaves.
abbrev pub al : List Frame → ℕ
al [] = 0
al (f ∷ fs) = 1

abbrev pub on_floor : ℕ → Floor → ℕ
on_floor k empty = 0
on_floor k (held_by p) = once k p

abbrev pub noticed : ℕ → Notice → ℕ
noticed k (wakes p) = once k p
noticed k (returns_r i n g) = 0
noticed k (returns_b i n g) = 0

abbrev pub in_events : ℕ → List Event → ℕ
in_events k es = over (λ e. noticed k e.notice) es

abbrev pub waits : ℕ → List Waiter → ℕ
waits k ws = over (λ w. once k w.place) ws

abbrev pub in_all : ℕ → List (List Waiter) → ℕ
in_all k wss = over (waits k) wss

abbrev pub slaved : ℕ → List Slave → ℕ
slaved k xs = over (λ x. once k x.place) xs

abbrev pub owned : ℕ → List Process → ℕ
owned k ps = over (λ q. slaved k q.slaves) ps

-- How many processes have number n; what of resource i is held, and what is returning; how many returns wait.
abbrev pub bearing : ℕ → List Process → ℕ
bearing n ps = over (λ q. once n q.number) ps

abbrev pub held_in : ℕ → List Process → ℕ
held_in i ps = over (λ q. get_or q.held i 0) ps

abbrev pub gives : ℕ → Notice → ℕ
gives i (wakes p) = 0
gives i (returns_r j n g) = only i j n
gives i (returns_b j n g) = 0

abbrev pub back_in : ℕ → List Event → ℕ
back_in i es = over (λ e. gives i e.notice) es

abbrev pub owes : Notice → ℕ
owes (wakes p) = 0
owes (returns_r i n g) = 1
owes (returns_b i n g) = 1

abbrev pub returning : List Event → ℕ
returning es = over (λ e. owes e.notice) es

-- A PROCESS that lives, and a place that is free. n is the last number given.
pub record Fine (m : Model) (n : ℕ) (q : Process) : Type 0 where
  pub is_numbered : 1 ≤ q.number
  pub is_given : q.number ≤ n
  pub prio_low : Below lowest q.priority
  pub prio_high : I32 q.priority
  pub locals_many : length q.locals ≡ No.locals
  pub locals_ok : AllOf I32 q.locals
  pub held_many : length q.held ≡ length m.totals
  pub slaves_ok : AllOf (λ x. x.of < m.syncs) q.slaves
  pub frames_ok : chained m q.frames ≡ true

pub record Vacant (q : Process) : Type 0 where
  pub no_number : q.number ≡ 0
  pub no_priority : q.priority ≡ pos 0
  pub no_locals : q.locals ≡ []
  pub no_held : q.held ≡ []
  pub no_slaves : q.slaves ≡ []

pub record ProcOk (m : Model) (n : ℕ) (q : Process) : Type 0 where
  pub dead : al q.frames ≡ 0 → Vacant q
  pub live : 1 ≤ al q.frames → Fine m n q

-- THE EVENT LIST. c is the clock, ps are the places.
pub record ReturnOk (known n : ℕ) (x : ℤ) (i a g : ℕ) : Type 0 where
  pub is_low : x ≡ of_returns
  pub is_known : i < known
  pub amount_ok : Within 1 No.top_amount a
  pub giver_ok : Within 1 n g

abbrev pub NoticeOk : Model → ℕ → List Process → ℤ → Notice → Type 0
NoticeOk m n ps x (wakes p) = x ≡ (get_or ps p nobody).priority
NoticeOk m n ps x (returns_r i a g) = ReturnOk (length m.totals) n x i a g
NoticeOk m n ps x (returns_b i a g) = ReturnOk (length m.amounts) n x i a g

pub record EventOk (m : Model) (c n : ℕ) (ps : List Process) (e : Event) : Type 0 where
  pub not_before : c ≤ e.time
  pub not_late : e.time ≤ No.latest
  pub tells : NoticeOk m n ps e.priority e.notice

-- e may stand before f.
pub record Late (e f : Event) : Type 0 where
  pub in_time : e.time ≤ f.time
  pub in_rank : e.time ≡ f.time → Below f.priority e.priority

-- WAITERS. w may stand before v; the priority that is listed is the process's own; a blocked one stands at a REQ or TRY.
abbrev pub Ranked : Waiter → Waiter → Type 0
Ranked w v = Below v.priority w.priority

abbrev pub Tied : List Process → Waiter → Type 0
Tied ps w = w.priority ≡ (get_or ps w.place nobody).priority

abbrev pub Stands : Model → List Process → Waiter → Type 0
Stands m ps w = asks_at (stands_in m (get_or ps w.place nobody).frames) ≡ true

-- EXACTLY ONE. Place k is listed or in hand, as often as z says, once where somebody lives and else not at all. AMOUNTS ADD UP:
-- what of resource i is free, held, returning and in hand, as much as y says, is its total.
abbrev pub InOne : List Event → List (List Waiter) → List Process → List Waiter → (ℕ → ℕ) → ℕ → Type 0
InOne es wa ps l z k = in_events k es + in_all k wa + owned k ps + waits k l + z k ≡ al (get_or ps k nobody).frames

abbrev pub AddsUp : Model → List ℕ → List Process → List Event → (ℕ → ℕ) → ℕ → Type 0
AddsUp m fr ps es y i = get_or fr i 0 + held_in i ps + back_in i es + y i ≡ get_or m.totals i 0

-- SEEDS: one for each sampler, each in its range.
abbrev pub Seed : ℕ → Type 0
Seed = Within 1 No.last_seed

pub record SeedsOk (m : Model) (d : List ℕ) : Type 0 where
  pub many : length d ≡ length m.samplers
  pub each : AllOf Seed d

-- WHAT HOLDS IN THE MIDDLE OF A STEP, over the parts of a state: l is the blocked list, z counts the places in hand (on the
-- floor, or being moved), y is what of each resource is in hand.
pub record Inv (m : Model) (c n : ℕ) (gs : List ℤ) (fr bi sd : List ℕ) (wa : List (List Waiter)) (es : List Event)
    (ps : List Process) (l : List Waiter) (z y : ℕ → ℕ) : Type 0 where
  pub places_64 : length ps ≡ No.places
  pub syncs_many : length wa ≡ m.syncs
  pub frees_many : length fr ≡ length m.totals
  pub bins_many : length bi ≡ length m.amounts
  pub vars_many : length gs ≡ length m.vars
  pub clock_ok : c ≤ No.latest
  pub last_ok : n ≤ No.last_number
  pub globals_ok : AllOf I32 gs
  pub bins_ok : AllOf (λ x. x ≤ No.full_bin) bi
  pub seeds_ok : SeedsOk m sd
  pub procs_ok : AllOf (ProcOk m n) ps
  pub own_number : (k : ℕ) → 1 ≤ k → bearing k ps ≤ 1
  pub events_ok : AllOf (EventOk m c n ps) es
  pub events_ordered : Ordered Late es
  pub few_returns : returning es ≤ No.returns
  pub blocked_ordered : Ordered Ranked l
  pub blocked_tied : AllOf (Tied ps) l
  pub blocked_stand : AllOf (Stands m ps) l
  pub waiting_ordered : AllOf (Ordered Ranked) wa
  pub waiting_tied : AllOf (AllOf (Tied ps)) wa
  pub in_one : (k : ℕ) → InOne es wa ps l z k
  pub adds_up : (i : ℕ) → AddsUp m fr ps es y i

abbrev pub Held : Model → State → List Waiter → (ℕ → ℕ) → (ℕ → ℕ) → Type 0
Held m s l z y =
    Inv m s.clock s.last s.globals s.free s.bins s.seeds s.waiting s.events s.processes l z y

-- BETWEEN STEPS only the floor's process is in hand, and nothing of a resource.
abbrev pub Sound : Model → State → Type 0
Sound m s = Held m s s.blocked (λ k. on_floor k s.floor) (λ i. 0)
