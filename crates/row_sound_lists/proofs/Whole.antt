-- All the tests together decide soundness, the blocks apart. Assumes nothing.
use Rattle.std.specs.Prelude.{if◌then◌else◌}
use Prim.Native.Nat.{ℕ, ◌≤◌}
use native.Mathlib.Omega.{arith}
use mathlib.Core.Path.{◌≡◌, sym, ◌∙◌, ap}
use mathlib.Core.List.{List}
use mathlib.Core.Bool.{Bool, true, ◌&&◌, ◌||◌}
use lib.Dec.{leb}
use borrow.Author.Tests.{le-leb, lt-ltb, eq-eqb}
use lib.ListN.{length}
use lib.Signed.{mag}
use Rattle.semantics.specs.Words.{all, keep, within}
use Rattle.semantics.specs.Model.{Model}
use Rattle.semantics.specs.State.{State, is_free}
use Rattle.semantics.specs.Step.{is_return}
use Rattle.semantics.specs.Value.{is_i32}
use Rattle.semantics.specs.Sound.{vacant, furnished, event_tied, waiter_tied, process_in_range, event_in_range, own_number, shaped}
use Rattle.semantics.specs.Sound.{in_one, adds_up}
use Rattle.promises.specs.Laws.{◌&◌, all_map}
use Rattle.promises.specs.Fit.{I32}
use Rattle.promises.specs.Sound.{Seed}
use Rattle.promises.specs.Says.{Says, says_is, says_for, says_within, ◌and◌, says_also}
use Rattle.row_process.specs.Process.{Shown}
use Rattle.row_lists.specs.Lists.{Any}
use Rattle.semantics.specs.Numbers as No
use Rattle.base_numbers.specs.Row as Row
use Rattle.base_numbers.specs.Limit as Limit
use Rattle.base_numbers.specs.Code as Code
use Rattle.row_lists.proofs.Waiting as Wait
use Rattle.row_sound_lists.specs.Tests.{each, Bounded, queue_fits, waiting_fits, events_fit}
use Rattle.row_sound_lists.specs.Tests.{place_fits, place_listed, amounts_add}
use Rattle.row_sound_lists.specs.Counted.{Counted, sound_beside}
use Rattle.row_sound_lists.proofs.Indices.{same_says, all_true}
use Rattle.row_sound_lists.proofs.Reading.{bounded}
use Rattle.row_sound_lists.proofs.Waiters.{in_line, queue_is, waiting_is}
use Rattle.row_sound_lists.proofs.Events.{events_in_line, events_are}
use Rattle.row_sound_lists.proofs.Places.{places_are}
use Rattle.row_sound_lists.proofs.Listed.{in_one_is}
use Rattle.row_sound_lists.proofs.Amounts.{adds_up_is}

-- A test by another that agrees with it.
says_via : {a b : Bool} {P : Type 0} → a ≡ b → Says b P → Says a P
says_via e p = record { yes = λ h. p.yes (sym e ∙ h); back = λ h. e ∙ p.back h }

is : (b : Bool) → Says b (b ≡ true)
is b = says_is

module _ {w totals : List ℕ} {resources bins syncs : ℕ} (v : Counted w totals resources bins syncs) where
  abbrev m : Model
  m = v.model

  abbrev s : State
  s = v.is

  unfoldable pub shown : Shown w Any
  shown = record { is = v.is; shows = v.shows; sized = v.sized; given = tt }

  pub is_bounded : Bounded w
  is_bounded = bounded shown

  pub few_syncs : syncs ≤ Limit.THINGS
  few_syncs = omega (arith, v.things.syncs_are, v.fits.few_syncs)

  pub few_resources : resources ≤ Limit.THINGS
  few_resources = omega (arith, v.things.resources_are, v.fits.few_totals)

  waiting_many : syncs ≡ length s.waiting
  waiting_many = v.things.syncs_are ∙ sym v.shaped.syncs_many

  -- THE CLAUSES, each a test by itself.
  abbrev shapes : Bool
  shapes = all (λ q. if is_free q then vacant q else furnished m q) s.processes

  abbrev ranges : Bool
  ranges = all (λ q. is_free q || process_in_range m q) s.processes

  abbrev numbers : Bool
  numbers = all (λ q. is_free q || own_number s q) s.processes

  abbrev times : Bool
  times = all (λ e. leb s.clock e.time) s.events

  abbrev few : Bool
  few = leb (length (keep is_return s.events)) No.returns

  says_places : Says (each No.places (place_fits w syncs)) ((shapes ≡ true) × ((ranges ≡ true) × (numbers ≡ true)))
  unfolding shown
  says_places =
      says_via (ap (λ n. each No.places (place_fits w n)) v.things.syncs_are ∙ places_are shown m v.shaped.furnished)
      (says_also _ _ s.processes (says_also _ _ s.processes says_is))

  says_events : Says (events_fit w resources bins)
      ((events_in_line s.events ≡ true)
      × ((times ≡ true) × ((all (event_tied s) s.events ≡ true) × (all (event_in_range m s) s.events ≡ true))))
  unfolding shown
  says_events =
      says_via
      (ap (λ n. events_fit w n bins) v.things.resources_are
      ∙ ap (events_fit w (length m.totals)) v.things.bins_are
      ∙ events_are shown m)
      (is (events_in_line s.events) and says_also _ _ s.events (says_also _ _ s.events says_is))

  says_blocked : Says (queue_fits w Row.QUEUE 6) ((in_line s.blocked ≡ true) × (all (waiter_tied s) s.blocked ≡ true))
  unfolding shown
  says_blocked =
      says_via (queue_is shown (Wait.blocked_queue shown))
      (is (in_line s.blocked) and is (all (waiter_tied s) s.blocked))

  says_waiting : Says (waiting_fits w syncs)
      ((all in_line s.waiting ≡ true) × (all (all (waiter_tied s)) s.waiting ≡ true))
  unfolding shown
  says_waiting =
      says_via (waiting_is shown syncs waiting_many)
      (is (all in_line s.waiting) and is (all (all (waiter_tied s)) s.waiting))

  says_one : Says (each No.places (place_listed w syncs)) (in_one s ≡ true)
  unfolding shown
  says_one = says_via (in_one_is shown syncs waiting_many) (is (in_one s))

  says_adding : Says (each resources (amounts_add w totals)) (adds_up m s ≡ true)
  unfolding shown
  says_adding = says_via (adds_up_is shown m v.things v.shaped) (is (adds_up m s))

  -- What holds of any sized state.
  globals_in : all is_i32 s.globals ≡ true
  globals_in =
      all_true is_i32 s.globals
      (all_map I32 _ (λ x i. lt-ltb (mag x) Code.ZERO i) s.globals v.sized.globals_ok)

  bins_in : all (λ n. leb n No.full_bin) s.bins ≡ true
  bins_in = all_true _ s.bins (all_map (λ n. n ≤ No.full_bin) _ (λ n i. le-leb n No.full_bin i) s.bins v.sized.bins_low)

  seeds_in : all (within 1 No.last_seed) s.seeds ≡ true
  seeds_in = all_true _ s.seeds (all_map Seed _ (λ n i. says_within.back i) s.seeds v.sized.seeds_ok)

  pub tests_decide :
      ((few && ((each No.places (place_fits w syncs) && each No.places (place_listed w syncs))
      && (events_fit w resources bins && (queue_fits w Row.QUEUE Row.BLOCKED && waiting_fits w syncs))))
      && each resources (amounts_add w totals))
      ≡ sound_beside m s
  unfolding sound_beside
  tests_decide =
      same_says
      (says_for
      ((is few and (says_places and says_one) and says_events and says_blocked and says_waiting) and says_adding)
      (λ h.
      let places = h.0.1.0 in
      let lists = h.0.1.1 in
      let es = lists.0 in
      let bs = lists.1.0 in
      let ws = lists.1.1 in
      (eq-eqb _ _ v.sized.places_64 & eq-eqb _ _ v.shaped.frees_many & eq-eqb _ _ v.shaped.bins_many
      & eq-eqb _ _ v.shaped.vars_many & eq-eqb _ _ v.shaped.syncs_many & eq-eqb _ _ v.shaped.seeds_many
      & places.0.0 & es.1.1.0 & bs.1 & ws.1)
      & (le-leb _ _ v.sized.clock_low & le-leb _ _ v.sized.last_low & globals_in & bins_in & seeds_in
      & places.0.1.0 & es.1.1.1 & h.0.0)
      & (es.0 & bs.0 & ws.0 & es.1.0)
      & places.0.1.1
      & places.1
      & h.1)
      (λ h.
      let shape = h.0.1.1.1.1.1.1 in
      let range = h.1.0.1.1.1.1.1 in
      let order = h.1.1.0 in
      let rest = h.1.1.1 in
      (range.1.1
      & ((shape.0 & range.0 & rest.0) & rest.1.0)
      & (order.0 & order.1.1.1 & shape.1.0 & range.1.0)
      & (order.1.0 & shape.1.1.0) & (order.1.1.0 & shape.1.1.1))
      & rest.1.1))
      ((says_is and says_is and says_is and says_is and says_is and says_is and is shapes and says_is and says_is and says_is)
      and (says_is and says_is and says_is and says_is and says_is and is ranges and says_is and is few)
      and (says_is and says_is and says_is and is times)
      and is numbers and is (in_one s) and is (adds_up m s))
