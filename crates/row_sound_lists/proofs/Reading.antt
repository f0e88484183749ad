-- What stands where in a work that shows a state. Assumes nothing.
use Prim.Native.Nat.{ℕ, zero, suc, ◌+◌, ◌-◌, ◌≤◌, ◌<◌}
use native.Mathlib.Omega.{arith}
use mathlib.Core.Path.{◌≡◌, refl, sym, ◌∙◌, ap}
use mathlib.Core.List.{List, [], ◌∷◌, ◌++◌, map}
use lib.ListN.{length, get_or, replicate, length-map}
use lib.IntN.{pos}
use Rattle.semantics.specs.Numbers as No
use Rattle.semantics.specs.State.{State, Process, Slave, Event, Waiter, wakes, process}
use Rattle.promises.specs.Laws.{all_get, all_mapped}
use Rattle.base_numbers.specs.Row as Row
use Rattle.base_numbers.specs.Process as Process
use Rattle.base_numbers.specs.Limit as Limit
use Rattle.base_ordered.specs.Lines.{pad, event_key, event_word, waiter_word}
use Rattle.row_work.specs.Laid.{laid_at}
use Rattle.row_work.specs.Work.{process_parts, process_widths, process_row, slave_word, floor_word, ProcessSized, EventSized}
use Rattle.row_work.specs.Work.{WaiterSized, work_parts, work_widths, work_of, WaitersSized}
use Rattle.row_work.specs.Shown.{pad_at, get_map, process_wide, free_at, work_wide}
use Rattle.row_work.specs.Inside.{part_at}
use Rattle.row_work.specs.Head.{clock_at, floor_at}
use Rattle.row_work.specs.Places.{last_at}
use Rattle.row_process.specs.Process.{Shown}
use Rattle.row_lists.specs.Queues.{Queue}
use Rattle.row_process.proofs.Standing as Stand
use Rattle.row_lists.proofs.Events as Ev
use Rattle.row_lists.proofs.Waiting as Wait
use Rattle.row_sound_lists.specs.Tests.{word_of, Bounded}

abbrev pub no_event : Event
no_event = record { time = 0; priority = pos 0; notice = wakes 0 }

abbrev pub no_waiter : Waiter
no_waiter = record { priority = pos 0; place = 0 }

abbrev pub no_slave : Slave
no_slave = record { of = 0; place = 0 }

-- Past the end of a list its row has zeros.
zeros_at : (n i : ℕ) → ◌≡◌ {A = ℕ} (get_or (replicate n 0) i 0) 0
zeros_at zero i = refl
zeros_at (suc n) zero = refl
zeros_at (suc n) (suc i) = zeros_at n i

behind_at : (xs : List ℕ) (n i : ℕ) → get_or (xs ++ replicate n 0) i 0 ≡ get_or xs i 0
behind_at [] n i = zeros_at n i
behind_at (x ∷ xs) n zero = refl
behind_at (x ∷ xs) n (suc i) = behind_at xs n i

-- A list in a row.
row_at : {A : Type 0} (f : A → ℕ) (xs : List A) (d : A) (n k : ℕ) → k < length xs → get_or (pad n (map f xs)) k 0 ≡ f (get_or xs k d)
row_at f xs d n k h =
    let c : length (map f xs) ≡ length xs = length-map xs f in
    pad_at n (map f xs) k (omega arith) ∙ get_map f xs k d h

module _ {w : List ℕ} {from count : ℕ} {ws : List Waiter} (q : Queue w from count ws) where
  pub waiter_at : (k : ℕ) → k < length ws → get_or w (from + k) 0 ≡ waiter_word (get_or ws k no_waiter)
  waiter_at k h =
      let l = q.sized.few in
      sym (part_at w from Row.WAITERS_MOST k (omega arith))
      ∙ ap (λ r. get_or r k 0) q.row_is
      ∙ row_at waiter_word ws no_waiter Row.WAITERS_MOST k h

  pub waiter_sized : (k : ℕ) → WaiterSized (get_or ws k no_waiter)
  waiter_sized k = all_get WaiterSized ws k no_waiter q.sized.each (omega arith)

module _ {w : List ℕ} {P : State → Type 0} (v : Shown w P) where
  abbrev s : State
  s = v.is

  pub clock_is : get_or w Row.CLOCK 0 ≡ s.clock
  clock_is = ap (λ l. get_or l Row.CLOCK 0) v.shows ∙ clock_at s

  pub last_is : get_or w Row.LAST 0 ≡ s.last
  last_is = ap (λ l. get_or l Row.LAST 0) v.shows ∙ last_at s

  pub floor_is : get_or w Row.FLOOR 0 ≡ floor_word s.floor
  floor_is = ap (λ l. get_or l Row.FLOOR 0) v.shows ∙ floor_at s

  pub free_is : (i : ℕ) → i < length s.free → get_or w (Row.FREE + i) 0 ≡ get_or s.free i 0
  free_is i h = ap (λ l. get_or l (Row.FREE + i) 0) v.shows ∙ free_at s v.sized i h

  -- EVENTS.
  module _ (k : ℕ) (h : k < length s.events) where
    abbrev e : Event
    e = get_or s.events k no_event

    pub event_sized : EventSized e
    event_sized = all_get EventSized s.events k no_event v.sized.events_ok (omega arith)

    pub key_at : get_or w (Row.KEYS + k) 0 ≡ event_key e
    key_at =
        let l = v.sized.events_few in
        sym (part_at w Row.KEYS Row.EVENTS_MOST k (omega arith))
        ∙ ap (λ r. get_or r k 0) (Ev.keys_there v).are
        ∙ row_at event_key s.events no_event Row.EVENTS_MOST k h

    pub word_at : get_or w (Row.NOTICES + k) 0 ≡ event_word e
    word_at =
        let l = v.sized.events_few in
        sym (part_at w Row.NOTICES Row.EVENTS_MOST k (omega arith))
        ∙ ap (λ r. get_or r k 0) (Ev.words_here v).are
        ∙ row_at event_word s.events no_event Row.EVENTS_MOST k h

  -- A PROCESS.
  module _ (p : ℕ) (l : p < No.places) where
    abbrev q : Process
    q = process s p

    pub sized_there : ProcessSized q
    sized_there = Stand.is_sized v p

    pub held_at : (i : ℕ) → i < Limit.THINGS → word_of w p (Process.HELD + i) ≡ get_or q.held i 0
    unfolding process_row
    held_at i h =
        Stand.word_is v p l (Process.HELD + i) (omega arith)
        ∙ laid_at (process_parts q) process_widths (process_wide q sized_there) 2 i (omega arith)
        ∙ behind_at q.held (Limit.THINGS - length q.held) i

    pub slave_at : (k : ℕ) → k < length q.slaves → word_of w p (Process.OWNED + k) ≡ slave_word (get_or q.slaves k no_slave)
    unfolding process_row
    slave_at k h =
        let n = sized_there.slaves_few in
        Stand.word_is v p l (Process.OWNED + k) (omega arith)
        ∙ laid_at (process_parts q) process_widths (process_wide q sized_there) 4 k (omega arith)
        ∙ row_at slave_word q.slaves no_slave Process.OWNED_MOST k h

  -- Past its end, too, the row of what is free and that of how many wait are as the list.
  free_any : (i : ℕ) → i < Limit.THINGS → get_or w (Row.FREE + i) 0 ≡ get_or s.free i 0
  unfolding work_of
  free_any i h =
      ap (λ l. get_or l (Row.FREE + i) 0) v.shows
      ∙ laid_at (work_parts s) work_widths (work_wide s v.sized) 1 i (omega arith)
      ∙ behind_at s.free (Limit.THINGS - length s.free) i

  counts_any : (i : ℕ) → i < Limit.THINGS → get_or w (Row.WAITS + i) 0 ≡ get_or (map length s.waiting) i 0
  unfolding work_of
  counts_any i h =
      ap (λ l. get_or l (Row.WAITS + i) 0) v.shows
      ∙ laid_at (work_parts s) work_widths (work_wide s v.sized) 4 i (omega arith)
      ∙ behind_at (map length s.waiting) (Limit.THINGS - length (map length s.waiting)) i

  -- All of it is small.
  pub bounded : Bounded w
  bounded =
      record {
        long = Ev.long v;
        events_few = omega (arith, Ev.count_is v, v.sized.events_few);
        blocked_few = omega (arith, (Wait.blocked_queue v).count_is, v.sized.blocked_ok.few);
        waiting_few = λ i h. rw (counts_any i h) (few_at i);
        free_low = λ i h. rw (free_any i h) (all_get _ s.free i 0 v.sized.free_low (omega arith));
        depth_few = λ p h. Stand.depth_few v p h;
        slaves_few = λ p h. omega (arith, Stand.slaves_are v p h, (sized_there p h).slaves_few);
        held_low = λ p i h l.
            rw (held_at p h i l) (all_get _ (process s p).held i 0 (sized_there p h).held_low (omega arith));
      }
    where
      few_at : (i : ℕ) → get_or (map length s.waiting) i 0 ≤ Row.WAITERS_MOST
      few_at i =
          all_get (λ n. n ≤ Row.WAITERS_MOST) (map length s.waiting) i 0
          (all_mapped WaitersSized (λ n. n ≤ Row.WAITERS_MOST) length (λ ws h. h.few) s.waiting v.sized.waiting_ok)
          (omega arith)
