-- When an open run is sound (document 01, "Numbers the desk sees"): its clauses in their order, as tests that compute.
-- Assumes nothing.
use Rattle.std.specs.Prelude.{ℕ, ◌+◌, List, [], ◌∷◌, ◌++◌, map, Bool, true, false, not, ◌&&◌, ◌||◌, eqb, leb, ltb, length, get_or, ℤ, pos, if◌then◌else◌}
use Rattle.std.proofs.Math.Option.{Option, none, some}
use Rattle.std.proofs.Math.ListN.{get_elem?}
use Rattle.std.specs.Int.Signed.{le_z}
use Rattle.semantics.specs.Words.{all, any, keep, is_empty, ordered, collect, sum, up_to, within}
use Rattle.semantics.specs.Numbers as No
use Rattle.semantics.specs.Kinds as K
use Rattle.semantics.specs.Model.{Model, block, Action, HOLD, PRIO, TRACE, SET, LSET, DO, PUTR, PUTB, PUTS, BECOME, REQ}
use Rattle.semantics.specs.Model.{TRY, WHILE, START, CLOSE, kind_of}
use Rattle.semantics.specs.Decode.{refused, accepted, decode}
use Rattle.semantics.specs.State.{State, Process, Frame, Waiter, Event, Notice, wakes, returns_r, returns_b, Floor, empty}
use Rattle.semantics.specs.State.{held_by, process, is_free, sooner, higher}
use Rattle.semantics.specs.Value.{is_i32}
use Rattle.semantics.specs.Claim.{stands_in}
use Rattle.semantics.specs.Step.{is_return}

abbrev pub same : ℤ → ℤ → Bool
same x y = le_z x y && le_z y x

-- Of each living process.
abbrev pub of_living : (Process → Bool) → State → Bool
of_living f s = all (λ q. is_free q || f q) s.processes

-- THE SHAPE, which document 01's words take for granted: 64 places; an amount for each resource and bin, a value for each
-- variable, a list for each sync, a seed for each sampler; 8 locals and a holding for each resource in a process; nothing in a
-- free place; and the priority that is listed beside a process is its own.
abbrev pub vacant : Process → Bool
vacant q =
    eqb q.number 0
    && (same q.priority (pos 0) && (is_empty q.locals && (is_empty q.held && is_empty q.slaves)))

abbrev pub furnished : Model → Process → Bool
furnished m q = eqb (length q.locals) No.locals && eqb (length q.held) (length m.totals)

abbrev pub own_priority : State → ℤ → ℕ → Bool
own_priority s x p = same x (process s p).priority

abbrev pub event_tied : State → Event → Bool
event_tied s e =
    elim e.notice [ wakes p ↦ own_priority s e.priority p | returns_r i n g ↦ true | returns_b i n g ↦ true ]

abbrev pub waiter_tied : State → Waiter → Bool
waiter_tied s w = own_priority s w.priority w.place

abbrev pub shaped : Model → State → Bool
shaped m s =
    eqb (length s.processes) No.places
    && (eqb (length s.free) (length m.totals)
    && (eqb (length s.bins) (length m.amounts)
    && (eqb (length s.globals) (length m.vars)
    && (eqb (length s.waiting) m.syncs
    && (eqb (length s.seeds) (length m.samplers)
    && (all (λ q. if is_free q then vacant q else furnished m q) s.processes
    && (all (event_tied s) s.events && (all (waiter_tied s) s.blocked && all (all (waiter_tied s)) s.waiting))))))))

-- EVERY NUMBER IS IN ITS RANGE: a process's priority from -10,000, a return notice's exactly -15,000, a seed 1 to 2,147,483,646.
abbrev pub process_in_range : Model → Process → Bool
process_in_range m q =
    le_z No.lowest q.priority
    && (is_i32 q.priority && (all is_i32 q.locals && all (λ x. ltb x.of m.syncs) q.slaves))

abbrev pub return_in_range : ℕ → ℕ → ℤ → ℕ → ℕ → ℕ → Bool
return_in_range known last x i n g =
    same x No.of_returns && (ltb i known && (within 1 No.top_amount n && within 1 last g))

abbrev pub event_in_range : Model → State → Event → Bool
event_in_range m s e =
    leb e.time No.latest
    && elim e.notice [
      | wakes p ↦ true
      | returns_r i n g ↦ return_in_range (length m.totals) s.last e.priority i n g
      | returns_b i n g ↦ return_in_range (length m.amounts) s.last e.priority i n g
    ]

abbrev pub numbers_in_range : Model → State → Bool
numbers_in_range m s =
    leb s.clock No.latest
    && (leb s.last No.last_number
    && (all is_i32 s.globals
    && (all (λ n. leb n No.full_bin) s.bins
    && (all (within 1 No.last_seed) s.seeds
    && (of_living (process_in_range m) s
    && (all (event_in_range m s) s.events && leb (length (keep is_return s.events)) No.returns))))))

-- .. a place from the block's first action to just past its last, rounds left 1 to n in a DO's block, else 1; A PROCESS'S
-- BLOCKS BEGIN WITH A CLASS BODY, EACH NEXT ONE NAMED WHERE THE ONE BEFORE STANDS. `enters a b r`: one that stands at a can be
-- in block b with r rounds left.
abbrev pub enters : Action → ℕ → ℕ → Bool
enters (HOLD e) b r = false
enters (PRIO e) b r = false
enters (TRACE e) b r = false
enters (SET i e) b r = false
enters (LSET i e) b r = false
enters (DO n k) b r = eqb k b && within 1 n r
enters (PUTR i n) b r = false
enters (PUTB i n) b r = false
enters (PUTS i n) b r = false
enters (BECOME i) b r = false
enters (REQ c) b r = false
enters (TRY bs) b r = any (λ x. eqb x.block b) bs && eqb r 1
enters (WHILE k c) b r = eqb k b && eqb r 1
enters (START c t h) b r = false
enters CLOSE b r = false

abbrev pub enters_at : Option Action → ℕ → ℕ → Bool
enters_at none b r = false
enters_at (some a) b r = enters a b r

abbrev pub named_there : Model → Frame → List Frame → Bool
named_there m f [] = any (eqb f.block) m.classes && eqb f.rounds 1
named_there m f (g ∷ gs) = enters_at (get_elem? (block m g.block) g.at) f.block f.rounds

abbrev pub chained : Model → List Frame → Bool
chained m [] = true
chained m (f ∷ fs) = leb f.at (length (block m f.block)) && (named_there m f fs && chained m fs)

abbrev pub all_chained : Model → State → Bool
all_chained m s = all (λ q. chained m q.frames) s.processes

-- ALL LISTS ARE ORDERED AND NO LISTED TIME IS BEFORE THE CLOCK.
abbrev pub in_order : State → Bool
in_order s =
    ordered (λ e f. not (sooner f e)) s.events
    && (ordered (λ w v. not (higher v w)) s.blocked
    && (all (ordered (λ w v. not (higher v w))) s.waiting && all (λ e. leb s.clock e.time) s.events))

-- EACH LIVING PROCESS HAS ITS OWN NUMBER, NONE ABOVE THE LAST GIVEN.
abbrev pub own_number : State → Process → Bool
own_number s q =
    within 1 s.last q.number && eqb (length (keep (λ r. eqb q.number r.number) s.processes)) 1

abbrev pub own_numbers : State → Bool
own_numbers s = of_living (own_number s) s

-- AND IS IN EXACTLY ONE of floor, event list, blocked list, a waiting list or one owner's slaves.
abbrev pub on_floor : Floor → List ℕ
on_floor empty = []
on_floor (held_by p) = p ∷ []

abbrev pub woken : Notice → List ℕ
woken (wakes p) = p ∷ []
woken (returns_r i n g) = []
woken (returns_b i n g) = []

abbrev pub waiters_places : List Waiter → List ℕ
waiters_places ws = map (λ w. w.place) ws

abbrev pub listed : State → List ℕ
listed s =
    on_floor s.floor
    ++ (collect (λ e. woken e.notice) s.events
    ++ (waiters_places s.blocked
    ++ (collect waiters_places s.waiting ++ collect (λ q. map (λ x. x.place) q.slaves) s.processes)))

abbrev pub in_one : State → Bool
in_one s =
    all (λ p. ltb p No.places) (listed s)
    && all (λ p. eqb (length (keep (eqb p) (listed s))) (if is_free (process s p) then 0 else 1)) (up_to No.places)

-- A BLOCKED ONE STANDS AT A REQ OR TRY.
abbrev pub asking : Action → Bool
asking a = eqb (kind_of a) K.REQ || eqb (kind_of a) K.TRY

abbrev pub asks_at : Option Action → Bool
asks_at none = false
asks_at (some a) = asking a

abbrev pub blocked_stand : Model → State → Bool
blocked_stand m s = all (λ w. asks_at (stands_in m (process s w.place).frames)) s.blocked

-- FOR EACH RESOURCE FREE, HELD AND RETURNING AMOUNTS ADD UP TO THE TOTAL.
abbrev pub returning : ℕ → Notice → ℕ
returning i (wakes p) = 0
returning i (returns_r j n g) = if eqb i j then n else 0
returning i (returns_b j n g) = 0

abbrev pub held_of : ℕ → State → ℕ
held_of i s = sum (map (λ q. get_or q.held i 0) s.processes)

abbrev pub returning_of : ℕ → State → ℕ
returning_of i s = sum (map (λ e. returning i e.notice) s.events)

abbrev pub adds_up : Model → State → Bool
adds_up m s =
    all (λ i. eqb (get_or s.free i 0 + held_of i s + returning_of i s) (get_or m.totals i 0)) (up_to (length m.totals))

unfoldable pub sound_in : Model → State → Bool
sound_in m s =
    shaped m s
    && (numbers_in_range m s
    && (all_chained m s && (in_order s && (own_numbers s && (in_one s && (blocked_stand m s && adds_up m s))))))

-- The open run handed in: the bytes of its model file and its state. Its model passes 1 to 10, and the rest.
unfoldable pub sound : List ℕ → State → Bool
unfolding decode sound_in
sound bs s = elim (decode bs) [ refused n p ↦ false | accepted m ↦ sound_in m s ]
