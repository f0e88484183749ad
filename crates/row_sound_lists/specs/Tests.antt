-- The clauses of a sound run as tests on the numbers of the work. Assumes nothing.
use Rattle.std.specs.Prelude.{ℕ, ◌+◌, ◌-◌, ◌*◌, ◌/◌, ◌%◌, ◌≤◌, ◌<◌, ◌≡◌, List, map, Bool, not, ◌&&◌, eqb, leb, ltb, length, get_or, if◌then◌else◌}
use Rattle.semantics.specs.Numbers as No
use Rattle.semantics.specs.Words.{all, sum, up_to, within}
use Rattle.base_numbers.specs.Row as Row
use Rattle.base_numbers.specs.Process as Process
use Rattle.base_numbers.specs.Word as Word
use Rattle.base_numbers.specs.Limit as Limit
use Rattle.base_numbers.specs.Code as Code
use Rattle.base_ordered.specs.Lines.{kind_of, number_of, amount_of, giver_of}

-- Of each index below n; and the sum over them.
unfoldable pub each : ℕ → (ℕ → Bool) → Bool
each n f = all f (up_to n)

unfoldable pub tally : ℕ → (ℕ → ℕ) → ℕ
tally n f = sum (map f (up_to n))

abbrev pub one_if : Bool → ℕ
one_if b = if b then 1 else 0

-- The number at j of the row of the process in place p.
abbrev pub word_of : List ℕ → ℕ → ℕ → ℕ
word_of w p j = get_or w (Row.PROCESSES + Process.WORDS * p + j) 0

-- What a row has that shows any sized state.
pub record Bounded (w : List ℕ) : Type 0 where
  pub long : length w ≡ Row.WORDS
  pub events_few : get_or w Row.EVENTS 0 ≤ Row.EVENTS_MOST
  pub blocked_few : get_or w Row.BLOCKED 0 ≤ Row.WAITERS_MOST
  pub waiting_few : (i : ℕ) → i < Limit.THINGS → get_or w (Row.WAITS + i) 0 ≤ Row.WAITERS_MOST
  pub free_low : (i : ℕ) → i < Limit.THINGS → get_or w (Row.FREE + i) 0 ≤ Limit.AMOUNT
  pub depth_few : (p : ℕ) → p < No.places → word_of w p Process.DEPTH ≤ Limit.DEPTH
  pub slaves_few : (p : ℕ) → p < No.places → word_of w p Process.SLAVES ≤ No.places
  pub held_low : (p i : ℕ) → p < No.places → i < Limit.THINGS → word_of w p (Process.HELD + i) ≤ Limit.AMOUNT

-- A row of some that wait from `from` on, and how many they are at `count`.
pub record Lined (w : List ℕ) (from count : ℕ) : Type 0 where
  pub long : length w ≡ Row.WORDS
  pub row_in : from + Row.WAITERS_MOST ≤ Row.WORDS
  pub count_in : count < Row.WORDS
  pub few : get_or w count 0 ≤ Row.WAITERS_MOST

-- THE WORD OF AN EVENT: of a return of this rank, where so many things are known; of any event, where `own` is
-- the rank of the process that it names.
abbrev pub return_fits : (known last rank word : ℕ) → Bool
return_fits known last rank word =
    eqb rank Code.OF_RETURNS
    && (ltb (number_of word) known && (within 1 Limit.AMOUNT (amount_of word) && within 1 last (giver_of word)))

abbrev pub word_fits : (last resources bins rank own word : ℕ) → Bool
word_fits last resources bins rank own word =
    if eqb (kind_of word) 0 then eqb rank own
    else return_fits (if eqb (kind_of word) 1 then resources else bins) last rank word

module _ (w : List ℕ) where
  -- WAITERS. The one at k stands before the next; its priority is its own.
  abbrev pub rises : (from by k : ℕ) → Bool
  rises from by k = leb (get_or w (from + k) 0 / by) (get_or w (from + (k + 1)) 0 / by)

  abbrev pub tied : ℕ → Bool
  tied word = eqb (Code.HIGHEST - word / Word.KEY % Word.RANKS) (word_of w (word % Word.PLACES) Process.PRIORITY)

  abbrev pub queue_fits : (from count : ℕ) → Bool
  queue_fits from count =
      each (get_or w count 0 - 1) (rises from Word.KEY) && each (get_or w count 0) (λ k. tied (get_or w (from + k) 0))

  abbrev pub waiting_fits : ℕ → Bool
  waiting_fits syncs = each syncs (λ i. queue_fits (Row.WAITING + Row.WAITERS_MOST * i) (Row.WAITS + i))

  -- EVENTS. The one at k.
  abbrev pub event_fits : (resources bins k : ℕ) → Bool
  event_fits resources bins k =
      leb (get_or w Row.CLOCK 0) (get_or w (Row.KEYS + k) 0 / Word.TIME)
      && word_fits (get_or w Row.LAST 0) resources bins (Code.HIGHEST - get_or w (Row.KEYS + k) 0 % Word.RANKS)
      (word_of w (number_of (get_or w (Row.NOTICES + k) 0)) Process.PRIORITY) (get_or w (Row.NOTICES + k) 0)

  abbrev pub events_fit : (resources bins : ℕ) → Bool
  events_fit resources bins =
      each (get_or w Row.EVENTS 0 - 1) (rises Row.KEYS 1) && each (get_or w Row.EVENTS 0) (event_fits resources bins)

  -- PLACES.
  abbrev pub slaves_known : (syncs p : ℕ) → Bool
  slaves_known syncs p = each (word_of w p Process.SLAVES) (λ k. ltb (word_of w p (Process.OWNED + k) / Word.SYNC) syncs)

  abbrev pub alike : ℕ → ℕ
  alike number = tally No.places (λ q. one_if (eqb number (word_of w q Process.NUMBER)))

  abbrev pub vacant_row : ℕ → Bool
  vacant_row p =
      eqb (word_of w p Process.NUMBER) 0
      && (eqb (word_of w p Process.PRIORITY) Code.ZERO && eqb (word_of w p Process.SLAVES) 0)

  abbrev pub living_row : (syncs p : ℕ) → Bool
  living_row syncs p =
      leb Code.LOWEST (word_of w p Process.PRIORITY)
      && (slaves_known syncs p
      && (within 1 (get_or w Row.LAST 0) (word_of w p Process.NUMBER) && eqb (alike (word_of w p Process.NUMBER)) 1))

  abbrev pub place_fits : (syncs p : ℕ) → Bool
  place_fits syncs p = if eqb (word_of w p Process.DEPTH) 0 then vacant_row p else living_row syncs p

  -- HOW OFTEN place p is listed: by events, by those that wait in a row, by slaves of the process in place q.
  abbrev pub in_events : ℕ → ℕ
  in_events p =
      tally (get_or w Row.EVENTS 0)
      (λ k. one_if (eqb (kind_of (get_or w (Row.NOTICES + k) 0)) 0 && eqb p (number_of (get_or w (Row.NOTICES + k) 0))))

  abbrev pub in_queue : (from count p : ℕ) → ℕ
  in_queue from count p = tally (get_or w count 0) (λ k. one_if (eqb p (get_or w (from + k) 0 % Word.PLACES)))

  abbrev pub in_waiting : (syncs p : ℕ) → ℕ
  in_waiting syncs p = tally syncs (λ i. in_queue (Row.WAITING + Row.WAITERS_MOST * i) (Row.WAITS + i) p)

  abbrev pub in_slaves : (p q : ℕ) → ℕ
  in_slaves p q = tally (word_of w q Process.SLAVES) (λ k. one_if (eqb p (word_of w q (Process.OWNED + k) % Word.PLACES)))

  abbrev pub owned : ℕ → ℕ
  owned p = tally No.places (in_slaves p)

  abbrev pub place_listed : (syncs p : ℕ) → Bool
  place_listed syncs p =
      eqb (one_if (eqb (get_or w Row.FLOOR 0) (p + 1))
      + (in_events p + (in_queue Row.QUEUE Row.BLOCKED p + (in_waiting syncs p + owned p))))
      (one_if (not (eqb (word_of w p Process.DEPTH) 0)))

  -- AMOUNTS of resource i: held by all, and returning.
  abbrev pub held_all : ℕ → ℕ
  held_all i = tally No.places (λ q. word_of w q (Process.HELD + i))

  abbrev pub returning_at : (i k : ℕ) → ℕ
  returning_at i k =
      if eqb (kind_of (get_or w (Row.NOTICES + k) 0)) 1 && eqb i (number_of (get_or w (Row.NOTICES + k) 0))
      then amount_of (get_or w (Row.NOTICES + k) 0) else 0

  abbrev pub returning_all : ℕ → ℕ
  returning_all i = tally (get_or w Row.EVENTS 0) (returning_at i)

  abbrev pub amounts_add : (totals : List ℕ) → ℕ → Bool
  amounts_add totals i = eqb (get_or w (Row.FREE + i) 0 + held_all i + returning_all i) (get_or totals i 0)
