-- The work that is tested is the work of the state that it shows, and that state has a size that the work can hold.
-- Assumes nothing.
use Prim.Native.Nat.{ℕ, ◌+◌, ◌-◌, ◌*◌, ◌≤◌, ◌<◌}
use native.Mathlib.Omega.{arith}
use mathlib.Core.Path.{◌≡◌, sym, ◌∙◌, ap, subst}
use mathlib.Core.List.{List, [], ◌∷◌, ◌++◌, map}
use lib.ListN.{length, get_or, take, drop, replicate, length-map, length-take}
use lib.Seq.{length-take-le, take-take, take_at}
use Rattle.semantics.specs.Words.{collect, sum}
use Rattle.semantics.specs.Numbers as No
use Rattle.semantics.specs.State.{State, Waiter}
use Rattle.promises.specs.Laws.{AllOf, all_map, all_mapped, ◌&◌}
use Rattle.promises.specs.Fit.{I32}
use Rattle.promises.specs.Sound.{Seed}
use Rattle.promises.specs.Says.{Says, says_le, says_eq, says_for, ◌and◌}
use Rattle.base_numbers.specs.Row as Row
use Rattle.base_numbers.specs.Limit as Limit
use Rattle.base_i32.specs.Code.{code, value_of}
use Rattle.base_ordered.specs.Lines.{pad, event_key, waiter_word, data_of}
use Rattle.row_work.specs.Laid.{laid, laid_part, even_length}
use Rattle.row_work.specs.Work.{closed_word, head_of, waiters_row, work_parts, work_widths, work_of, NoticeSized}
use Rattle.row_work.specs.Work.{WaitersSized, Sized}
use Rattle.row_work.specs.Shown.{work_wide, row_length}
use Rattle.row_view.specs.View.{cut, notice_of, events_of, waiting_of, view_by}
use Rattle.row_view.specs.Fits.{Few, work_fits}
use Rattle.row_view.proofs.Words.{says_code, says_key, says_notice}
use Rattle.row_view.proofs.Shown.{says_shown}
use Rattle.row_view.proofs.Lists.{says_amounts, Timely, by_key, events_long, keys_are, words_are, events_all, events_each}
use Rattle.row_view.proofs.Lists.{says_seeds, Listed, says_waiters}
use Rattle.row_view.proofs.Waiting.{Waits, says_waiting}
use Rattle.row_view.proofs.Living.{Lives, says_living}
use Rattle.row_view.proofs.Head.{closed_is, closed_low, floor_is, floor_ok, floor_low, processes_long, waiting_many}
use Rattle.row_view.proofs.Cuts.{laid_cuts, cut_long, cut-words}

module _ (r b y v g : ℕ) (few : Few r b y v g) (w : List ℕ) (long : length w ≡ Row.WORDS) where
  abbrev s : State
  s = view_by r b y v g w

  abbrev n : ℕ
  n = get_or w Row.EVENTS 0

  abbrev keys : List ℕ
  keys = take n (cut Row.KEYS Row.EVENTS_MOST w)

  abbrev data' : List ℕ
  data' = take n (cut Row.NOTICES Row.EVENTS_MOST w)

  abbrev values : List ℕ
  values = take v (cut Row.GLOBALS Limit.THINGS w)

  abbrev seeds : List ℕ
  seeds = take g (cut Row.SEEDS Limit.SAMPLERS w)

  -- What the tests say.
  pub record Tested : Type 0 where
    pub clock_low : get_or w Row.CLOCK 0 ≤ No.latest
    pub closed_bit : get_or w Row.CLOSED 0 ≤ 1
    pub last_low : get_or w Row.LAST 0 ≤ No.last_number
    pub floor_low : get_or w Row.FLOOR 0 ≤ No.places
    pub spare : get_or w Row.SPARE 0 ≡ 0
    pub free_are : cut Row.FREE Limit.THINGS w ≡ pad Limit.THINGS (take r (cut Row.FREE Limit.THINGS w))
    pub free_low : AllOf (λ x. x ≤ Limit.AMOUNT) (take r (cut Row.FREE Limit.THINGS w))
    pub bins_are : cut Row.BINS Limit.THINGS w ≡ pad Limit.THINGS (take b (cut Row.BINS Limit.THINGS w))
    pub bins_low : AllOf (λ x. x ≤ No.full_bin) (take b (cut Row.BINS Limit.THINGS w))
    pub globals_are : cut Row.GLOBALS Limit.THINGS w ≡ pad Limit.THINGS (map code (map value_of values))
    pub globals_ok : AllOf I32 (map value_of values)
    pub counts_are : cut Row.WAITS Limit.THINGS w ≡ pad Limit.THINGS (take y (cut Row.WAITS Limit.THINGS w))
    pub counts_low : AllOf (λ x. x ≤ Row.WAITERS_MOST) (take y (cut Row.WAITS Limit.THINGS w))
    pub blocked : Listed (get_or w Row.BLOCKED 0) (cut Row.QUEUE Row.WAITERS_MOST w)
    pub events_few : n ≤ Row.EVENTS_MOST
    pub keys_made : cut Row.KEYS Row.EVENTS_MOST w ≡ pad Row.EVENTS_MOST (map event_key (map by_key keys))
    pub keys_ok : AllOf Timely (map by_key keys)
    pub data_made : cut Row.NOTICES Row.EVENTS_MOST w ≡ pad Row.EVENTS_MOST (map data_of (map notice_of data'))
    pub data_ok : AllOf NoticeSized (map notice_of data')
    pub waiting : Waits (cut Row.WAITS y w) (cut Row.WAITING Row.WAITERS_ALL w)
    pub living : Lives r few.few_resources No.places (cut Row.PROCESSES Row.PROCESSES_ALL w) (get_or w Row.LIVING 0)
    pub seeds_are : cut Row.SEEDS Limit.SAMPLERS w ≡ pad Limit.SAMPLERS seeds
    pub seeds_ok : AllOf Seed seeds

  part_long : (a k : ℕ) → a + k ≤ Row.WORDS → length (cut a k w) ≡ k
  part_long a k h = cut_long a k w (omega arith)

  says_tested : Says (work_fits r b y v g w) Tested
  unfolding work_fits
  says_tested =
      let u = few.few_syncs in
      says_for
      ((says_le and says_le and says_le and says_le and says_eq)
      and (says_amounts Limit.AMOUNT Limit.THINGS r (cut Row.FREE Limit.THINGS w) (part_long Row.FREE Limit.THINGS (omega arith))
      and says_amounts No.full_bin Limit.THINGS b (cut Row.BINS Limit.THINGS w) (part_long Row.BINS Limit.THINGS (omega arith))
      and says_shown _ code value_of I32 says_code Limit.THINGS v (cut Row.GLOBALS Limit.THINGS w)
      (part_long Row.GLOBALS Limit.THINGS (omega arith))
      and says_amounts Row.WAITERS_MOST Limit.THINGS y (cut Row.WAITS Limit.THINGS w)
      (part_long Row.WAITS Limit.THINGS (omega arith)))
      and (says_waiters (get_or w Row.BLOCKED 0) (cut Row.QUEUE Row.WAITERS_MOST w)
      (part_long Row.QUEUE Row.WAITERS_MOST (omega arith))
      and says_shown _ event_key by_key Timely says_key Row.EVENTS_MOST n (cut Row.KEYS Row.EVENTS_MOST w)
      (part_long Row.KEYS Row.EVENTS_MOST (omega arith))
      and says_shown _ data_of notice_of NoticeSized says_notice Row.EVENTS_MOST n (cut Row.NOTICES Row.EVENTS_MOST w)
      (part_long Row.NOTICES Row.EVENTS_MOST (omega arith))
      and says_waiting (cut Row.WAITS y w) (cut Row.WAITING Row.WAITERS_ALL w)
      (omega (arith, part_long Row.WAITS y (omega arith), part_long Row.WAITING Row.WAITERS_ALL (omega arith))))
      and says_living r few.few_resources No.places (cut Row.PROCESSES Row.PROCESSES_ALL w) (get_or w Row.LIVING 0)
      (part_long Row.PROCESSES Row.PROCESSES_ALL (omega arith))
      and says_seeds Limit.SAMPLERS g (cut Row.SEEDS Limit.SAMPLERS w) (part_long Row.SEEDS Limit.SAMPLERS (omega arith)))
      (λ h.
      record {
        clock_low = h.0.0;
        closed_bit = h.0.1.0;
        last_low = h.0.1.1.0;
        floor_low = h.0.1.1.1.0;
        spare = h.0.1.1.1.1;
        free_are = h.1.0.0.1.0;
        free_low = h.1.0.0.1.1;
        bins_are = h.1.0.1.0.1.0;
        bins_low = h.1.0.1.0.1.1;
        globals_are = h.1.0.1.1.0.1.0;
        globals_ok = h.1.0.1.1.0.1.1;
        counts_are = h.1.0.1.1.1.1.0;
        counts_low = h.1.0.1.1.1.1.1;
        blocked = h.1.1.0.0;
        events_few = h.1.1.0.1.0.0;
        keys_made = h.1.1.0.1.0.1.0;
        keys_ok = h.1.1.0.1.0.1.1;
        data_made = h.1.1.0.1.1.0.1.0;
        data_ok = h.1.1.0.1.1.0.1.1;
        waiting = h.1.1.0.1.1.1;
        living = h.1.1.1.0;
        seeds_are = h.1.1.1.1.1.0;
        seeds_ok = h.1.1.1.1.1.1;
      })
      (λ t.
      (t.clock_low & t.closed_bit & t.last_low & t.floor_low & t.spare)
      & ((few.few_resources & t.free_are & t.free_low)
      & (few.few_bins & t.bins_are & t.bins_low)
      & (few.few_variables & t.globals_are & t.globals_ok)
      & few.few_syncs & t.counts_are & t.counts_low)
      & (t.blocked & (t.events_few & t.keys_made & t.keys_ok) & (t.events_few & t.data_made & t.data_ok) & t.waiting)
      & t.living
      & few.few_samplers & t.seeds_are & t.seeds_ok)

  -- The counts of the waiting lists, and the lists.
  abbrev counts : List ℕ
  counts = take y (cut Row.WAITS Limit.THINGS w)

  abbrev lists : List (List Waiter)
  lists = waiting_of counts (cut Row.WAITING Row.WAITERS_ALL w)

  counts-cut : cut Row.WAITS y w ≡ counts
  counts-cut = sym (take-take y Limit.THINGS (drop Row.WAITS w) few.few_syncs)

  counts_long : length counts ≡ y
  counts_long = length-take-le y (cut Row.WAITS Limit.THINGS w)
      (omega (arith, part_long Row.WAITS Limit.THINGS (omega arith), few.few_syncs))

  lists_long : AllOf WaitersSized lists → length (collect waiters_row lists) ≡ Row.WAITERS_MOST * length lists
  lists_long h =
      even_length waiters_row Row.WAITERS_MOST lists
      (all_map WaitersSized _ (λ ws k. row_length Row.WAITERS_MOST waiter_word ws k.few) lists h)

  -- As many zeros stand behind them in either form.
  zeros_are : AllOf WaitersSized lists → map length lists ≡ counts
      → length (cut Row.WAITING Row.WAITERS_ALL w) - Row.WAITERS_MOST * length counts
      ≡ Row.WAITERS_ALL - length (collect waiters_row lists)
  zeros_are h e =
      let a = lists_long h in
      let c : length lists ≡ length counts = sym (length-map lists length) ∙ ap length e in
      let d = part_long Row.WAITING Row.WAITERS_ALL (omega arith) in
      omega arith

  same_many : length keys ≡ length data'
  same_many =
      let a = length-take n (cut Row.KEYS Row.EVENTS_MOST w) in
      let c = length-take n (cut Row.NOTICES Row.EVENTS_MOST w) in
      let d = part_long Row.KEYS Row.EVENTS_MOST (omega arith) in
      let e = part_long Row.NOTICES Row.EVENTS_MOST (omega arith) in
      omega arith

  few_of : (k most : ℕ) (row : List ℕ) → length row ≡ most → length (take k row) ≤ most
  few_of k most row l = let a = length-take k row in omega arith

  abbrev Is : Type 0
  Is = (w ≡ work_of s) × Sized s

  module _ (t : Tested) where
    waits : Waits counts (cut Row.WAITING Row.WAITERS_ALL w)
    waits = subst (λ ns. Waits ns (cut Row.WAITING Row.WAITERS_ALL w)) counts-cut t.waiting

    sized : Sized s
    unfolding view_by
    sized =
        record {
          clock_low = t.clock_low;
          last_low = t.last_low;
          floor_ok = floor_ok (get_or w Row.FLOOR 0) t.floor_low;
          free_few = few_of r Limit.THINGS (cut Row.FREE Limit.THINGS w) (part_long Row.FREE Limit.THINGS (omega arith));
          free_low = t.free_low;
          bins_few = few_of b Limit.THINGS (cut Row.BINS Limit.THINGS w) (part_long Row.BINS Limit.THINGS (omega arith));
          bins_low = t.bins_low;
          globals_few =
              let a = few_of v Limit.THINGS (cut Row.GLOBALS Limit.THINGS w) (part_long Row.GLOBALS Limit.THINGS (omega arith)) in
              let c : length (map value_of values) ≡ length values = length-map values value_of in
              omega arith;
          globals_ok = t.globals_ok;
          syncs_few =
              let a = few.few_syncs in
              let c : length lists ≡ length counts = sym (length-map lists length) ∙ ap length waits.1.0 in
              omega (arith, counts_long);
          waiting_ok = waits.1.1;
          blocked_ok = t.blocked.1.1;
          events_few =
              let a : length (events_of keys data') ≡ length keys = events_long keys data' same_many in
              let c = length-take n (cut Row.KEYS Row.EVENTS_MOST w) in
              let d = part_long Row.KEYS Row.EVENTS_MOST (omega arith) in
              omega arith;
          events_ok = events_all keys data' same_many t.keys_ok t.data_ok;
          places_64 = processes_long r No.places (cut Row.PROCESSES Row.PROCESSES_ALL w);
          processes_ok = t.living.1.0;
          seeds_few = few_of g Limit.SAMPLERS (cut Row.SEEDS Limit.SAMPLERS w) (part_long Row.SEEDS Limit.SAMPLERS (omega arith));
          seeds_ok = t.seeds_ok;
        }

    head : cut 0 8 w ≡ head_of s
    unfolding view_by
    head =
        let a : length (events_of keys data') ≡ n =
        events_long keys data' same_many
        ∙ length-take-le n (cut Row.KEYS Row.EVENTS_MOST w)
        (omega (arith, part_long Row.KEYS Row.EVENTS_MOST (omega arith), t.events_few)) in
        let c = closed_is (get_or w Row.CLOSED 0) t.closed_bit in
        let f = floor_is (get_or w Row.FLOOR 0) in
        let l = t.living.1.1 in
        let k = t.blocked.1.0 in
        cut-words 8 0 w (omega arith)
        ∙ (λ z. get_or w Row.CLOCK 0 ∷ sym c z ∷ get_or w Row.LAST 0 ∷ sym f z ∷ l z ∷ sym a z ∷ sym k z ∷ t.spare z ∷ [])

    there : Is
    unfolding view_by work_of
    there =
        let cuts = laid_cuts 0 work_widths w long in
        let counts_are = t.counts_are ∙ ap (pad Limit.THINGS) (sym waits.1.0) in
        let keys_shown = t.keys_made ∙ ap (pad Row.EVENTS_MOST) (sym (keys_are keys data' same_many)) in
        let data_shown = t.data_made ∙ ap (pad Row.EVENTS_MOST) (sym (words_are keys data' same_many)) in
        let lists_are =
        waits.0 ∙ ap (λ j. collect waiters_row lists ++ replicate j 0) (zeros_are waits.1.1 waits.1.0) in (
          sym cuts
              ∙ (λ z.
              laid
              (head z ∷ t.free_are z ∷ t.bins_are z ∷ t.globals_are z ∷ counts_are z ∷ t.blocked.0 z
              ∷ keys_shown z ∷ data_shown z ∷ lists_are z ∷ t.living.0 z ∷ t.seeds_are z ∷ [])),
          sized,
        )

  module _ (h : Is) where
    part : (k : ℕ) → k < length work_widths → cut (sum (take k work_widths)) (get_or work_widths k 0) w ≡ get_or (work_parts s) k []
    unfolding work_of
    part k l =
        ap (cut (sum (take k work_widths)) (get_or work_widths k 0)) h.0
        ∙ laid_part (work_parts s) work_widths (work_wide s h.1) k l

    counts_back : map length lists ≡ counts
    unfolding view_by
    counts_back =
        let e : cut Row.WAITS Limit.THINGS w ≡ pad Limit.THINGS (map length lists) = part 4 (omega arith) in
        let l : length (map length lists) ≡ y =
        length-map lists length ∙ waiting_many counts (cut Row.WAITING Row.WAITERS_ALL w) ∙ counts_long in
        sym (ap (take y) e ∙ take_at (map length lists) (replicate (Limit.THINGS - length (map length lists)) 0) y l)

    waits_back : Waits counts (cut Row.WAITING Row.WAITERS_ALL w)
    unfolding view_by
    waits_back =
        let z = zeros_are h.1.waiting_ok counts_back in
        (part 8 (omega arith) ∙ ap (λ j. collect waiters_row lists ++ replicate j 0) (sym z))
        & counts_back & h.1.waiting_ok

    back : Tested
    unfolding view_by work_of laid
    back =
        let z = h.1 in
        let at : (i : ℕ) → get_or w i 0 ≡ get_or (work_of s) i 0 = λ i. ap (λ x. get_or x i 0) h.0 in
        let c : get_or w Row.CLOSED 0 ≡ closed_word s.closed = at 1 in
        let m : n ≡ length s.events = at 5 in
        let e = events_each keys data' same_many z.events_ok in
        record {
          clock_low = z.clock_low;
          closed_bit = omega (arith, closed_low s.closed);
          last_low = z.last_low;
          floor_low = floor_low (get_or w Row.FLOOR 0) z.floor_ok;
          spare = at 7;
          free_are = part 1 (omega arith);
          free_low = z.free_low;
          bins_are = part 2 (omega arith);
          bins_low = z.bins_low;
          globals_are = part 3 (omega arith);
          globals_ok = z.globals_ok;
          counts_are = part 4 (omega arith) ∙ ap (pad Limit.THINGS) counts_back;
          counts_low =
              subst (AllOf (λ x. x ≤ Row.WAITERS_MOST)) counts_back
              (all_mapped WaitersSized (λ x. x ≤ Row.WAITERS_MOST) length (λ ws k. k.few) lists z.waiting_ok);
          blocked = part 5 (omega arith) & sym (at 6) & z.blocked_ok;
          events_few = omega (arith, z.events_few);
          keys_made = part 6 (omega arith) ∙ ap (pad Row.EVENTS_MOST) (keys_are keys data' same_many);
          keys_ok = e.0;
          data_made = part 7 (omega arith) ∙ ap (pad Row.EVENTS_MOST) (words_are keys data' same_many);
          data_ok = e.1;
          waiting = subst (λ ns. Waits ns (cut Row.WAITING Row.WAITERS_ALL w)) (sym counts-cut) waits_back;
          living = part 9 (omega arith) & z.processes_ok & at 4;
          seeds_are = part 10 (omega arith);
          seeds_ok = z.seeds_ok;
        }

  pub says_work : Says (work_fits r b y v g w) Is
  says_work = says_for says_tested there back
