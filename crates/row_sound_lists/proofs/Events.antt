-- The test of the event list: it is in order, no time is before the clock, and each event fits. Assumes nothing.
use Rattle.std.specs.Prelude.{if◌then◌else◌}
use Prim.Native.Nat.{ℕ, suc, ◌+◌, ◌-◌, ◌/◌, ◌%◌, ◌≤◌, ◌<◌}
use native.Mathlib.Omega.{arith}
use native.Mathlib.Numerals.{add-one}
use mathlib.Core.Path.{◌≡◌, sym, ◌∙◌, ap}
use mathlib.Core.List.{List}
use mathlib.Core.Bool.{Bool, true, not, ◌&&◌}
use lib.Dec.{eqb, leb, ltb}
use borrow.Author.Tests.{le-leb}
use lib.ListN.{length, get_or}
use lib.IntN.{ℤ}
use Rattle.semantics.specs.Words.{all, ordered, within}
use Rattle.semantics.specs.Model.{Model}
use Rattle.semantics.specs.State.{State, Event, Notice, wakes, returns_r, returns_b, process, sooner}
use Rattle.semantics.specs.Sound.{same, event_tied, event_in_range, return_in_range}
use Rattle.promises.specs.Fit.{I32}
use Rattle.base_i32.specs.Code.{code}
use Rattle.base_i32.specs.Laws.{code_fits}
use Rattle.base_ordered.specs.Lines.{packed, kind_of, number_of, amount_of, giver_of, data_of, event_key, event_word}
use Rattle.base_ordered.specs.Order.{sooner_key, kind_packed, number-packed, amount-packed, giver-packed}
use Rattle.row_work.specs.Work.{EventSized, NoticeSized}
use Rattle.row_process.specs.Process.{Shown}
use Rattle.semantics.specs.Numbers as No
use Rattle.semantics.specs.Numbers.{of_returns}
use Rattle.base_numbers.specs.Row as Row
use Rattle.base_numbers.specs.Process as Process
use Rattle.base_numbers.specs.Word as Word
use Rattle.base_numbers.specs.Limit as Limit
use Rattle.base_numbers.specs.Code as Code
use Rattle.row_process.proofs.Standing as Stand
use Rattle.row_lists.proofs.Events as Ev
use Rattle.row_sound_lists.specs.Tests.{each, word_of, rises, return_fits, word_fits, event_fits, events_fit}
use Rattle.row_sound_lists.proofs.Indices.{each_all, each-ordered, ordered_same}
use Rattle.row_sound_lists.proofs.Tests.{not-ltb, same_code, and_unit}
use Rattle.row_sound_lists.proofs.Reading.{no_event, clock_is, last_is, key_at, word_at, event_sized}

abbrev pub events_in_line : List Event → Bool
events_in_line es = ordered (λ e f. not (sooner f e)) es

-- A RETURN.
return_is : (known last : ℕ) (x : ℤ) (i n g word : ℕ) → I32 x → number_of word ≡ i → amount_of word ≡ n → giver_of word ≡ g
    → return_fits known last (code x) word ≡ return_in_range known last x i n g
unfolding code
return_is known last x i n g word h a b c =
    ap (λ j. eqb (code x) Code.OF_RETURNS
    && (ltb j known && (within 1 Limit.AMOUNT (amount_of word) && within 1 last (giver_of word)))) a
    ∙ ap (λ j. eqb (code x) Code.OF_RETURNS && (ltb i known && (within 1 Limit.AMOUNT j && within 1 last (giver_of word)))) b
    ∙ ap (λ j. eqb (code x) Code.OF_RETURNS && (ltb i known && (within 1 Limit.AMOUNT n && within 1 last j))) c
    ∙ ap (λ t. t && (ltb i known && (within 1 Limit.AMOUNT n && within 1 last g))) (same_code x of_returns h (omega arith))

-- The word by its kind.
module _ (last resources bins rank own word : ℕ) where
  abbrev chosen : ℕ → Bool
  chosen k = if eqb k 0 then eqb rank own else return_fits (if eqb k 1 then resources else bins) last rank word

  wakes_by : kind_of word ≡ 0 → word_fits last resources bins rank own word ≡ eqb rank own
  wakes_by e = ap chosen e

  resource_by : kind_of word ≡ 1 → word_fits last resources bins rank own word ≡ return_fits resources last rank word
  resource_by e = ap chosen e

  bin_by : kind_of word ≡ 2 → word_fits last resources bins rank own word ≡ return_fits bins last rank word
  bin_by e = ap chosen e

module _ {w : List ℕ} {P : State → Type 0} (v : Shown w P) (m : Model) where
  abbrev s : State
  s = v.is

  abbrev known : ℕ
  known = length m.totals

  abbrev bins : ℕ
  bins = length m.amounts

  abbrev pub event_ok : Event → Bool
  event_ok e = event_tied s e && event_in_range m s e

  abbrev event : ℕ → ℤ → Notice → Event
  event t x n = record { time = t; priority = x; notice = n }

  notice_is : (t : ℕ) (x : ℤ) (n : Notice) → t ≤ No.latest → I32 x → NoticeSized n
      → word_fits s.last known bins (code x) (word_of w (number_of (data_of n)) 1) (data_of n) ≡ event_ok (event t x n)
  notice_is t x (wakes p) h i k =
      let own : ℕ = word_of w (number_of (data_of (wakes p))) 1 in
      wakes_by s.last known bins (code x) own (packed 0 p 0 0) (kind_packed 0 p 0 0 (omega arith) k (omega arith))
      ∙ ap (λ j. eqb (code x) (word_of w j Process.PRIORITY)) (number-packed 0 p 0 0 (omega arith) k (omega arith))
      ∙ ap (eqb (code x)) (Stand.priority_is v p k)
      ∙ same_code x _ i (Stand.is_sized v p).priority_ok
      ∙ sym (and_unit _)
      ∙ ap (λ b. same x (process s p).priority && (b && true)) (sym (le-leb t No.latest h))
  notice_is t x (returns_r j n g) h i k =
      let own : ℕ = word_of w (number_of (data_of (returns_r j n g))) 1 in
      let word : ℕ = packed 1 j n g in
      let a : j < Word.NUMBERS = omega (arith, k.0) in
      let b : n < Word.AMOUNTS = omega (arith, k.1.0) in
      resource_by s.last known bins (code x) own word (kind_packed 1 j n g (omega arith) a b)
      ∙ return_is known s.last x j n g word i (number-packed 1 j n g (omega arith) a b)
      (amount-packed 1 j n g (omega arith) a b) (giver-packed 1 j n g (omega arith) a b)
      ∙ ap (λ b. b && return_in_range known s.last x j n g) (sym (le-leb t No.latest h))
  notice_is t x (returns_b j n g) h i k =
      let own : ℕ = word_of w (number_of (data_of (returns_b j n g))) 1 in
      let word : ℕ = packed 2 j n g in
      let a : j < Word.NUMBERS = omega (arith, k.0) in
      let b : n < Word.AMOUNTS = omega (arith, k.1.0) in
      bin_by s.last known bins (code x) own word (kind_packed 2 j n g (omega arith) a b)
      ∙ return_is bins s.last x j n g word i (number-packed 2 j n g (omega arith) a b)
      (amount-packed 2 j n g (omega arith) a b) (giver-packed 2 j n g (omega arith) a b)
      ∙ ap (λ b. b && return_in_range bins s.last x j n g) (sym (le-leb t No.latest h))

  time_in : (e : Event) → EventSized e → event_key e / Word.TIME ≡ e.time
  time_in e h = omega (arith, code_fits e.priority h.priority_ok)

  rank_in : (e : Event) → EventSized e → Code.HIGHEST - event_key e % Word.RANKS ≡ code e.priority
  rank_in e h = omega (arith, code_fits e.priority h.priority_ok)

  -- The one at k.
  event_is : (k : ℕ) → k < length s.events
      → event_fits w known bins k
      ≡ (leb s.clock (get_or s.events k no_event).time && event_ok (get_or s.events k no_event))
  event_is k l =
      let e : Event = get_or s.events k no_event in
      let h : EventSized e = event_sized v k l in
      let key : ℕ = get_or w (Row.KEYS + k) 0 in
      let word : ℕ = get_or w (Row.NOTICES + k) 0 in
      ap (λ c. leb c (key / Word.TIME)
      && word_fits (get_or w Row.LAST 0) known bins (Code.HIGHEST - key % Word.RANKS)
      (word_of w (number_of word) Process.PRIORITY) word) (clock_is v)
      ∙ ap (λ n. leb s.clock (key / Word.TIME)
      && word_fits n known bins (Code.HIGHEST - key % Word.RANKS) (word_of w (number_of word) Process.PRIORITY) word) (last_is v)
      ∙ ap (λ n. leb s.clock (n / Word.TIME)
      && word_fits s.last known bins (Code.HIGHEST - n % Word.RANKS) (word_of w (number_of word) Process.PRIORITY) word)
      (key_at v k l)
      ∙ ap (λ n. leb s.clock (event_key e / Word.TIME)
      && word_fits s.last known bins (Code.HIGHEST - event_key e % Word.RANKS) (word_of w (number_of n) Process.PRIORITY) n)
      (word_at v k l)
      ∙ ap (λ n. leb s.clock n
      && word_fits s.last known bins (Code.HIGHEST - event_key e % Word.RANKS)
      (word_of w (number_of (event_word e)) Process.PRIORITY)
      (event_word e)) (time_in e h)
      ∙ ap (λ n. leb s.clock e.time
      && word_fits s.last known bins n (word_of w (number_of (event_word e)) Process.PRIORITY) (event_word e)) (rank_in e h)
      ∙ ap (λ b. leb s.clock e.time && b)
      (notice_is e.time e.priority e.notice h.time_low h.priority_ok h.notice_ok)

  rises_is : (k : ℕ) → suc k < length s.events
      → rises w Row.KEYS 1 k ≡ leb (event_key (get_or s.events k no_event)) (event_key (get_or s.events (suc k) no_event))
  rises_is k h =
      let a : get_or w (Row.KEYS + k) 0 / 1 ≡ event_key (get_or s.events k no_event) = omega (arith, key_at v k (omega arith)) in
      let b : get_or w (Row.KEYS + (k + 1)) 0 / 1 ≡ event_key (get_or s.events (suc k) no_event) =
      ap (λ j. get_or w (Row.KEYS + j) 0 / 1) (add-one k) ∙ omega (arith, key_at v (suc k) h) in
      ap (λ n. leb n (get_or w (Row.KEYS + (k + 1)) 0 / 1)) a ∙ ap (leb (event_key (get_or s.events k no_event))) b

  in_line : each (get_or w Row.EVENTS 0 - 1) (rises w Row.KEYS 1) ≡ events_in_line s.events
  in_line =
      each-ordered no_event event_key (rises w Row.KEYS 1) s.events _ (Ev.count_is v) rises_is
      ∙ sym (ordered_same EventSized (λ a b. not (sooner b a)) (λ a b. leb (event_key a) (event_key b))
      (λ a b g h. ap not (sooner_key b a h.priority_ok g.priority_ok) ∙ not-ltb (event_key a) (event_key b))
      s.events v.sized.events_ok)

  pub events_are : events_fit w known bins
      ≡ (events_in_line s.events && all (λ e. leb s.clock e.time && event_ok e) s.events)
  events_are =
      ap (λ b. b && each (get_or w Row.EVENTS 0) (event_fits w known bins)) in_line
      ∙ ap (λ b. events_in_line s.events && b) (each_all no_event _ _ s.events _ (Ev.count_is v) event_is)
