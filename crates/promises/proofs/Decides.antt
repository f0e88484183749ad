-- The test sound_in decides Sound: its clauses, split in document 01's order, against the record that the promises carry.
-- Assumes nothing.
use Rattle.std.specs.Prelude.{ℕ, zero, suc, ◌+◌, ◌≤◌, ◌≡◌, refl, List, [], ◌∷◌, Bool, true, ◌&&◌, ◌||◌, eqb, leb, length, get_or, ℤ, pos, if◌then◌else◌}
use Rattle.std.proofs.Common.{arith, sym, ap, ◌∙◌}
use Rattle.std.proofs.Math.ListN.{get_or-eq_default}
use Rattle.semantics.specs.Words.{all, keep}
use Rattle.semantics.specs.Numbers as No
use Rattle.semantics.specs.Numbers.{lowest, of_returns}
use Rattle.semantics.specs.Model.{Model}
use Rattle.semantics.specs.State.{State, Process, Frame, Event, Notice, wakes, returns_r, returns_b, Waiter}
use Rattle.semantics.specs.State.{process, is_free, with_frames}
use Rattle.semantics.specs.Step.{is_return}
use Rattle.semantics.specs.Sound as Test
use Rattle.semantics.specs.Sound.{vacant, furnished, event_tied, waiter_tied, process_in_range, return_in_range, event_in_range}
use Rattle.semantics.specs.Sound.{chained, all_chained, own_number, own_numbers, woken, waiters_places, listed, in_one, adds_up}
use Rattle.semantics.specs.Sound.{sound_in}
use Rattle.promises.specs.Laws.{◌&◌, AllOf, all_map, over_zero, over_same, over_found}
use Rattle.promises.specs.Laws.{once, once_same, only_apart, once_self, only_if, keep-once}
use Rattle.promises.specs.Fit.{Within}
use Rattle.promises.specs.Sound.{al, bearing, held_in, gives, back_in}
use Rattle.promises.specs.Sound.{returning, Fine, Vacant, ProcOk, ReturnOk, NoticeOk, EventOk, Tied, AddsUp, Sound}
use Rattle.promises.specs.Says.{Says, says_is, says_true, says_for, ◌and◌, says_le, says_lt, says_eq, says_within}
use Rattle.promises.specs.Says.{says_all, says_ordered, says_empty, says_also, says_up_to, says_below, says_same}
use Rattle.promises.specs.Says.{says_ranked, says_late}
use Rattle.promises.specs.Keep.{free_or_fine}
use Rattle.promises.specs.Parts.{returning_are}
use Rattle.promises.specs.Decides.{near_far, says_in_one}

-- PROCESSES. Four clauses say something of one place; the last of them, that nobody else has the number, goes over all places.
module _ (m : Model) (s : State) where
  abbrev PlaceOk : Process → Type 0
  PlaceOk q = ProcOk m s.last q × (1 ≤ al q.frames → bearing q.number s.processes ≡ 1)

  abbrev place_test : Process → Bool
  place_test q =
      (if is_free q then vacant q else furnished m q)
      && ((is_free q || process_in_range m q) && (chained m q.frames && (is_free q || own_number s q)))

  each_place : Says (all place_test s.processes)
      ((all (λ q. if is_free q then vacant q else furnished m q) s.processes ≡ true)
      × ((Test.of_living (process_in_range m) s ≡ true) × ((all_chained m s ≡ true) × (own_numbers s ≡ true))))
  each_place = says_also _ _ s.processes (says_also _ _ s.processes (says_also _ _ s.processes says_is))

  says_vacant : (q : Process) → Says (vacant q) (Vacant q)
  says_vacant q =
      says_for
      (says_eq and says_same q.priority (pos 0) and says_empty q.locals and says_empty q.held and says_empty q.slaves)
      (λ h. search)
      (λ v. v.no_number & v.no_priority & v.no_locals & v.no_held & v.no_slaves)

  says_own : (q : Process)
      → Says (own_number s q) (Within 1 s.last q.number × (bearing q.number s.processes ≡ 1))
  says_own q =
      let e = keep-once q.number (λ r. r.number) s.processes in
      says_within and says_for says_eq (λ h. sym e ∙ h) (λ h. e ∙ h)

  says_fine : (q : Process)
      → Says (furnished m q && (process_in_range m q && (chained m q.frames && own_number s q)))
      (Fine m s.last q × (bearing q.number s.processes ≡ 1))
  says_fine q =
      says_for
      ((says_eq and says_eq)
      and (says_below lowest q.priority and says_lt
      and says_all (λ v. says_lt) q.locals and says_all (λ x. says_lt) q.slaves)
      and says_is and says_own q)
      (λ h. (search, h.1.1.1.1))
      (λ h.
      let f = h.0 in
      (f.locals_many & f.held_many)
      & (f.prio_low & f.prio_high & f.locals_ok & f.slaves_ok)
      & f.frames_ok & record { low = f.is_numbered; high = f.is_given } & h.1)

  says_place : (q : Process) (fs : List Frame) → Says (place_test (with_frames q fs)) (PlaceOk (with_frames q fs))
  says_place q [] =
      says_for (says_vacant (with_frames q []) and says_true)
      (λ h. (record { dead = λ d. h.0; live = λ d. absurd (omega arith) }, λ d. absurd (omega arith)))
      (λ h. (h.0.dead refl, tt))
  says_place q (f ∷ fs) =
      says_for (says_fine (with_frames q (f ∷ fs)))
      (λ h. (record { dead = λ d. absurd (omega arith); live = λ d. h.0 }, λ d. h.1))
      (λ h. (h.0.live (omega arith), h.1 (omega arith)))

  -- A number from 1 on that somebody has is a living one's, and so is his alone.
  own_yes : AllOf PlaceOk s.processes → (k : ℕ) → 1 ≤ k → bearing k s.processes ≤ 1
  own_yes a k l = some (bearing k s.processes) refl
    where
      alone : (q : Process) → PlaceOk q → k ≡ q.number → bearing k s.processes ≤ 1
      alone q h e =
          free_or_fine _ h.0 (λ d v. let z = v.no_number in absurd (omega arith))
          (λ d f. let o = h.1 d in let b = ap (λ j. bearing j s.processes) e in omega arith)

      some : (n : ℕ) → bearing k s.processes ≡ n → bearing k s.processes ≤ 1
      some zero e = omega arith
      some (suc n) e =
          over_found (λ q. once k q.number) PlaceOk (bearing k s.processes ≤ 1)
          (λ q h o. alone q h (once_same k q.number o)) s.processes a (omega arith)

  own_back : ((k : ℕ) → 1 ≤ k → bearing k s.processes ≤ 1) → (ps : List Process)
      → ((k : ℕ) → bearing k ps ≤ bearing k s.processes) → AllOf (ProcOk m s.last) ps → AllOf PlaceOk ps
  own_back o [] l a = tt
  own_back o (q ∷ qs) l a = ((a.0, alone), own_back o qs (λ k. let v = l k in omega arith) a.1)
    where
      alone : 1 ≤ al q.frames → bearing q.number s.processes ≡ 1
      alone d =
          let u = o q.number (a.0.live d).is_numbered in
          let v = l q.number in
          let w = once_self q.number in
          omega arith

  says_places : Says (all place_test s.processes)
      (AllOf (ProcOk m s.last) s.processes × ((k : ℕ) → 1 ≤ k → bearing k s.processes ≤ 1))
  says_places =
      says_for (says_all (λ q. says_place q q.frames) s.processes)
      (λ a. (all_map _ _ (λ q h. h.0) s.processes a, own_yes a))
      (λ h. own_back h.1 s.processes (λ k. omega arith) h.0)

-- EVENTS. Three clauses say something of one entry of the event list.
says_return : (known n : ℕ) (x : ℤ) (i a g : ℕ) → Says (return_in_range known n x i a g) (ReturnOk known n x i a g)
says_return known n x i a g =
    says_for (says_same x of_returns and says_lt and says_within and says_within)
    (λ h. search)
    (λ r. r.is_low & r.is_known & r.amount_ok & r.giver_ok)

module _ (m : Model) (s : State) where
  abbrev Listed : Event → Type 0
  Listed e = EventOk m s.clock s.last s.processes e

  abbrev event_test : Event → Bool
  event_test e = event_tied s e && (event_in_range m s e && leb s.clock e.time)

  each_event : Says (all event_test s.events)
      ((all (event_tied s) s.events ≡ true)
      × ((all (event_in_range m s) s.events ≡ true) × (all (λ e. leb s.clock e.time) s.events ≡ true)))
  each_event = says_also _ _ s.events (says_also _ _ s.events says_is)

  says_timed : {b : Bool} (e : Event) → Says b (NoticeOk m s.last s.processes e.priority e.notice)
      → Says ((leb e.time No.latest && b) && leb s.clock e.time) (Listed e)
  says_timed e p =
      says_for ((says_le and p) and says_le)
      (λ h. search)
      (λ o. (o.not_late & o.tells) & o.not_before)

  abbrev entry : ℕ → ℤ → Notice → Event
  entry t x n = record { time = t; priority = x; notice = n }

  says_event : (t : ℕ) (x : ℤ) (n : Notice) → Says (event_test (entry t x n)) (Listed (entry t x n))
  says_event t x (wakes p) =
      says_for (says_same x (process s p).priority and (says_le and says_true) and says_le)
      (λ h. search)
      (λ o. o.tells & (o.not_late & tt) & o.not_before)
  says_event t x (returns_r i a g) =
      says_timed (entry t x (returns_r i a g)) (says_return (length m.totals) s.last x i a g)
  says_event t x (returns_b i a g) =
      says_timed (entry t x (returns_b i a g)) (says_return (length m.amounts) s.last x i a g)

  says_events : Says (all event_test s.events) (AllOf Listed s.events)
  says_events = says_all (λ e. says_event e.time e.priority e.notice) s.events

says_few : (es : List Event) (k : ℕ) → Says (leb (length (keep is_return es)) k) (returning es ≤ k)
says_few es k =
    let a = returning_are es in
    says_for (says_le {a = length (keep is_return es)}) (λ h. omega arith) (λ h. omega arith)

-- AMOUNTS ADD UP. There is nothing of a resource beyond the last.
module _ (m : Model) (s : State) where
  abbrev Total : ℕ → Type 0
  Total = AddsUp m s.free s.processes s.events (λ i. 0)

  abbrev summed : ℕ → ℕ
  summed i = get_or s.free i 0 + Test.held_of i s + Test.returning_of i s

  says_sum : (i : ℕ) → Says (eqb (summed i) (get_or m.totals i 0)) (Total i)
  says_sum i =
      let a = over_same (λ e. Test.returning i e.notice) (λ e. gives i e.notice) (λ e. one e.notice) s.events in
      says_for (says_eq {a = summed i}) (λ h. omega arith) (λ h. omega arith)
    where
      one : (n : Notice) → Test.returning i n ≡ gives i n
      one (wakes p) = refl
      one (returns_r j a g) = sym (only_if i j a)
      one (returns_b j a g) = refl

  none_far : (l : List ℕ) → length l ≡ length m.totals → (i : ℕ) → length m.totals ≤ i → get_or l i 0 ≡ 0
  none_far l e i h = get_or-eq_default l 0 (omega arith)

  held_far : (i : ℕ) → length m.totals ≤ i → (ps : List Process) → AllOf (ProcOk m s.last) ps → held_in i ps ≡ 0
  held_far i l =
      over_zero (λ q. get_or q.held i 0) (ProcOk m s.last)
      (λ q o. free_or_fine _ o (λ e v. ap (λ (l : List ℕ). get_or l i 0) v.no_held)
      (λ e f. none_far q.held f.held_many i l))

  back_far : (i : ℕ) → length m.totals ≤ i → (es : List Event) → AllOf (Listed m s) es → back_in i es ≡ 0
  back_far i l =
      over_zero (λ e. gives i e.notice) (Listed m s) (λ e h. go e.priority e.notice h.tells)
    where
      go : (x : ℤ) (n : Notice) → NoticeOk m s.last s.processes x n → gives i n ≡ 0
      go x (wakes p) t = refl
      go x (returns_r j a g) t = let u = t.is_known in only_apart i j a (λ e. omega arith)
      go x (returns_b j a g) t = refl

  says_adds_up : length s.free ≡ length m.totals → AllOf (ProcOk m s.last) s.processes
      → AllOf (Listed m s) s.events → Says (adds_up m s) ((i : ℕ) → Total i)
  says_adds_up n ps es =
      says_for (says_up_to says_sum (length m.totals))
      (λ h. near_far (length m.totals) h
      (λ i l.
      let a = none_far s.free n i l in
      let b = held_far i l s.processes ps in
      let c = back_far i l s.events es in
      let d = none_far m.totals refl i l in
      omega arith))
      (λ h i l. h i)

-- THE TEST DECIDES: its clauses one by one, with what several of them say of one process or one event taken together.
module _ (m : Model) (s : State) where
  says_tied : (w : Waiter) → Says (waiter_tied s w) (Tied s.processes w)
  says_tied w = says_same w.priority (process s w.place).priority

  decides : Says (sound_in m s) (Sound m s)
  unfolding sound_in
  decides =
      says_for
      ((says_eq and says_eq and says_eq and says_eq and says_eq and says_eq and says_is and says_is
      and says_all says_tied s.blocked and says_all (says_all says_tied) s.waiting)
      and (says_le and says_le and says_all (λ v. says_lt) s.globals and says_all (λ n. says_le) s.bins
      and says_all (λ n. says_within) s.seeds and says_is and says_is and says_few s.events No.returns)
      and says_is
      and (says_ordered says_late s.events and says_ordered says_ranked s.blocked
      and says_all (says_ordered says_ranked) s.waiting and says_is)
      and says_is and says_is and says_all (λ w. says_is) s.blocked and says_is)
      (λ a.
      let shape = a.0 in
      let range = a.1.0 in
      let order = a.1.1.1.0 in
      let tests = shape.1.1.1.1.1.1 in
      let more = range.1.1.1.1.1 in
      let rest = a.1.1.1.1 in
      let ps = (says_places m s).yes ((each_place m s).back (tests.0 & more.0 & a.1.1.0 & rest.0)) in
      let es = (says_events m s).yes ((each_event m s).back (tests.1.0 & more.1.0 & order.1.1.1)) in
      let one = (says_in_one s shape.0).yes rest.1.0 in
      let sums = (says_adds_up m s shape.1.0 ps.0 es).yes rest.1.1.1 in
      search)
      (λ h.
      let p = (each_place m s).yes ((says_places m s).back (h.procs_ok & h.own_number)) in
      let e = (each_event m s).yes ((says_events m s).back h.events_ok) in
      (h.places_64 & h.frees_many & h.bins_many & h.vars_many & h.syncs_many & h.seeds_ok.many
      & p.0 & e.0 & h.blocked_tied & h.waiting_tied)
      & (h.clock_ok & h.last_ok & h.globals_ok & h.bins_ok & h.seeds_ok.each & p.1.0 & e.1.0 & h.few_returns)
      & p.1.1.0
      & (h.events_ordered & h.blocked_ordered & h.waiting_ordered & e.1.1)
      & p.1.1.1
      & (says_in_one s h.places_64).back h.in_one
      & h.blocked_stand
      & (says_adds_up m s h.frees_many h.procs_ok h.events_ok).back h.adds_up)

  pub sound_yes : sound_in m s ≡ true → Sound m s
  sound_yes e = decides.yes e

  pub sound_back : Sound m s → sound_in m s ≡ true
  sound_back h = decides.back h
