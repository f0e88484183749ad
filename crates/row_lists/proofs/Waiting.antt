-- The blocked list and the waiting lists in a work that shows the state. Assumes nothing.
use Prim.Native.Nat.{ℕ, ◌+◌, ◌-◌, ◌*◌, ◌%◌, ◌≤◌, ◌<◌}
use native.Mathlib.Omega.{arith}
use mathlib.Core.Path.{◌≡◌, refl, sym, ◌∙◌, ap}
use mathlib.Core.List.{List, [], map}
use lib.ListN.{length, get_or, set, take, drop, length-drop}
use lib.Seq.{get_or-set_same}
use Rattle.semantics.specs.State.{State, Waiter, higher, join, with_blocked, with_waiting}
use Rattle.promises.specs.Laws.{AllOf, all_get}
use Rattle.base_numbers.specs.Row as Row
use Rattle.base_numbers.specs.Word as Word
use Rattle.base_ordered.specs.Lines.{removed, waiter_key}
use Rattle.base_ordered.specs.Order.{insert-length, removed-length}
use Rattle.row_work.specs.Work.{work_of, WaitersSized, Doing}
use Rattle.row_work.specs.Shown.{counts_at}
use Rattle.row_work.specs.Blocked.{blocked_count, blocked_part, blocked_changed}
use Rattle.row_work.specs.Waiting.{waiting_part, waiting_changed}
use Rattle.row_process.specs.Process.{Lives, Shown, at_first}
use Rattle.row_lists.specs.Lists.{waiter_of, join_blocked, unblocked, IsBlocked}
use Rattle.row_lists.specs.Lists.{Becomes, join_waiting, Waits, taken_waiting}
use Rattle.row_lists.specs.Queues.{Queue, queued, Joining, Parting}
use Rattle.row_lists.proofs.Standing.{is_sized}
use Rattle.row_lists.proofs.Events.{long}
use Rattle.row_lists.proofs.Queues.{place_at}

module _ {w : List ℕ} {P : State → Type 0} (v : Shown w P) where
  abbrev s : State
  s = v.is

  pub blocked_queue : Queue w Row.QUEUE Row.BLOCKED s.blocked
  blocked_queue =
      record {
        long = long v;
        row_in = omega arith;
        count_in = omega arith;
        row_is = ap (λ l. take Row.WAITERS_MOST (drop Row.QUEUE l)) v.shows ∙ blocked_part s v.sized;
        count_is = ap (λ l. get_or l Row.BLOCKED 0) v.shows ∙ blocked_count s;
        sized = v.sized.blocked_ok;
      }

  pub blocked_written : (x : List ℕ) (ws : List Waiter) (n : ℕ) → x ≡ queued w Row.QUEUE Row.BLOCKED ws n → n ≡ length ws
      → x ≡ work_of (with_blocked s ws)
  blocked_written x ws n e c = e ∙ ap (λ l. queued l Row.QUEUE Row.BLOCKED ws n) v.shows ∙ blocked_changed s v.sized ws n c

  module _ (i : ℕ) (there : i < length s.waiting) where
    pub waiting_queue : Queue w (Row.WAITING + Row.WAITERS_MOST * i) (Row.WAITS + i) (get_or s.waiting i [])
    waiting_queue =
        let few = v.sized.syncs_few in
        record {
          long = long v;
          row_in = omega arith;
          count_in = omega arith;
          row_is = ap (λ l. take Row.WAITERS_MOST (drop (Row.WAITING + Row.WAITERS_MOST * i) l)) v.shows
              ∙ waiting_part s v.sized i there;
          count_is = ap (λ l. get_or l (Row.WAITS + i) 0) v.shows ∙ counts_at s v.sized i there;
          sized = all_get WaitersSized s.waiting i [] v.sized.waiting_ok (omega arith);
        }

    pub waiting_written : (x : List ℕ) (ws : List Waiter) (n : ℕ) → length ws ≤ Row.WAITERS_MOST
        → x ≡ queued w (Row.WAITING + Row.WAITERS_MOST * i) (Row.WAITS + i) ws n → n ≡ length ws
        → x ≡ work_of (with_waiting s (set s.waiting i ws))
    waiting_written x ws n few e c =
        e ∙ ap (λ l. queued l (Row.WAITING + Row.WAITERS_MOST * i) (Row.WAITS + i) ws n) v.shows
        ∙ waiting_changed s v.sized i there ws few n c

-- One list of all that are small, changed: it is small.
changed_few : (ls : List (List Waiter)) (i : ℕ) (ws : List Waiter) → i < length ls → AllOf WaitersSized (set ls i ws)
    → length ws ≤ Row.WAITERS_MOST
changed_few ls i ws h a =
    let z : WaitersSized (get_or (set ls i ws) i []) = all_get WaitersSized (set ls i ws) i [] a (omega arith) in
    omega (arith, z.few, ap length (get_or-set_same ls i ws [] h))

-- THE BLOCKED. The process in place p joins them, and the one at k leaves them.
module _ {w : List ℕ} (p : ℕ) (d : Doing w (Lives p) (join_blocked p)) where
  unfoldable pub joins_blocked : {key : ℕ} → key ≡ waiter_key (waiter_of d.is p) → Joining w Row.QUEUE Row.BLOCKED key p
  unfolding join
  joins_blocked e =
      record {
        seeking = record { line = d.is.blocked; queue = blocked_queue (at_first d); who = waiter_of d.is p; key_is = e };
        place_is = refl;
        place_low = d.given.in_places;
        ranked = (is_sized (at_first d) p).priority_ok;
        room = omega (arith, d.after.blocked_ok.few, insert-length higher (waiter_of d.is p) d.is.blocked);
      }

  pub blocked_joined : (x : List ℕ) → x ≡ queued w Row.QUEUE Row.BLOCKED (join d.is p d.is.blocked)
      (length d.is.blocked + 1)
      → x ≡ work_of (join_blocked p d.is)
  unfolding join
  blocked_joined x e =
      blocked_written (at_first d) x _ _ e (sym (insert-length higher (waiter_of d.is p) d.is.blocked))

module _ {w : List ℕ} (k : ℕ) (d : Doing w (IsBlocked k) (unblocked k)) where
  unfoldable pub leaves_blocked : Parting w Row.QUEUE Row.BLOCKED k
  leaves_blocked = record { line = d.is.blocked; queue = blocked_queue (at_first d); in_line = d.given }

  pub blocked_left : (x : List ℕ) → x ≡ queued w Row.QUEUE Row.BLOCKED (removed k d.is.blocked) (length d.is.blocked - 1)
      → x ≡ work_of (unblocked k d.is)
  blocked_left x e =
      blocked_written (at_first d) x _ _ e (omega (arith, removed-length k d.is.blocked d.given))

-- THOSE WAITING for sync i. The process in place p joins them, and the first leaves them.
module _ {w : List ℕ} (i p : ℕ) (d : Doing w (Becomes i p) (join_waiting i p)) where
  abbrev line : List Waiter
  line = get_or d.is.waiting i []

  pub joined_few : length (join d.is p line) ≤ Row.WAITERS_MOST
  joined_few = changed_few d.is.waiting i _ d.given.there d.after.waiting_ok

  unfoldable pub joins_waiting : {key : ℕ} → key ≡ waiter_key (waiter_of d.is p)
      → Joining w (Row.WAITING + Row.WAITERS_MOST * i) (Row.WAITS + i) key p
  unfolding join
  joins_waiting e =
      record {
        seeking = record {
          line = line;
          queue = waiting_queue (at_first d) i d.given.there;
          who = waiter_of d.is p;
          key_is = e;
        };
        place_is = refl;
        place_low = d.given.lives.in_places;
        ranked = (is_sized (at_first d) p).priority_ok;
        room = omega (arith, joined_few, insert-length higher (waiter_of d.is p) line);
      }

  pub waiting_joined : (x : List ℕ) → x ≡ queued w (Row.WAITING + Row.WAITERS_MOST * i) (Row.WAITS + i) (join d.is p line)
      (length line + 1)
      → x ≡ work_of (join_waiting i p d.is)
  unfolding join
  waiting_joined x e =
      waiting_written (at_first d) i d.given.there x _ _ joined_few e (sym (insert-length higher (waiter_of d.is p) line))

module _ {w : List ℕ} (i : ℕ) (d : Doing w (Waits i) (taken_waiting i)) where
  abbrev queue_of : List Waiter
  queue_of = get_or d.is.waiting i []

  unfoldable pub leaves_waiting : Parting w (Row.WAITING + Row.WAITERS_MOST * i) (Row.WAITS + i) 0
  leaves_waiting =
      record {
        line = queue_of;
        queue = waiting_queue (at_first d) i d.given.there;
        in_line = omega (arith, ap length d.given.waiting_are);
      }

  pub waiting_left : (x : List ℕ) → x ≡ queued w (Row.WAITING + Row.WAITERS_MOST * i) (Row.WAITS + i) (drop 1 queue_of)
      (length queue_of - 1)
      → x ≡ work_of (taken_waiting i d.is)
  waiting_left x e =
      let q = waiting_queue (at_first d) i d.given.there in
      waiting_written (at_first d) i d.given.there x _ _ (omega (arith, length-drop 1 queue_of, q.sized.few)) e
      (sym (length-drop 1 queue_of))

  pub first_place : get_or w (Row.WAITING + Row.WAITERS_MOST * i) 0 % Word.PLACES ≡ d.given.first.place
  first_place =
      let at : Row.WAITING + Row.WAITERS_MOST * i ≡ Row.WAITING + Row.WAITERS_MOST * i + 0 = omega arith in
      let f = ap length d.given.waiting_are in
      ap (λ j. get_or w j 0 % Word.PLACES) at
      ∙ place_at (waiting_queue (at_first d) i d.given.there) 0 (omega (arith, f))
      ∙ ap (λ l. get_or (map (λ x. x.place) l) 0 0) d.given.waiting_are
