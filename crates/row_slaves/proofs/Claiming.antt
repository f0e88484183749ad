-- Those that wait for a sync become slaves, one at a time. Assumes nothing.
use Prim.Native.Nat.{ℕ, ◌+◌, ◌-◌, ◌≤◌, ◌<◌}
use native.Mathlib.Omega.{arith}
use mathlib.Core.Path.{◌≡◌, refl, sym, subst, ◌∙◌, ap}
use mathlib.Core.List.{List, [], ◌∷◌, ◌++◌, map, map-append, append_assoc, append-nil}
use lib.ListN.{length, get_or, set, take, drop, length-append, length-drop, length-set}
use lib.Seq.{take-add, drop-drop, get_or-set_same, set-get_or, set-set}
use Rattle.semantics.specs.Numbers as No
use Rattle.semantics.specs.Model.{sync, get}
use Rattle.semantics.specs.State.{State, Process, Slave, Waiter, nobody, process, put, with_slaves, with_waiting, with_processes}
use Rattle.semantics.specs.Claim.{take_item}
use Rattle.promises.specs.Laws.{AllOf, all_get, all_set, all_drop, all_split}
use Rattle.base_numbers.specs.Row as Row
use Rattle.base_numbers.specs.Limit as Limit
use Rattle.row_work.specs.Work.{work_of, SlaveSized, ProcessSized, WaiterSized, WaitersSized, Sized, Doing, Done}
use Rattle.row_work.specs.Shown.{work_long}
use Rattle.row_process.specs.Process.{Lives, changed}
use Rattle.row_process.specs.Put.{process_sized, put_there, put_sized, sized_put}
use Rattle.row_lists.specs.Lists.{Waits, taken_waiting, TakenWaiting}
use Rattle.row_slaves.specs.Slaves.{Waiting, joined}

abbrev as_slave : ℕ → Waiter → Slave
as_slave i x = record { of = i; place = x.place }

-- The state where the process in place p has the slaves xs, and ws wait for sync i.
abbrev claimed : (p i : ℕ) → List Slave → List Waiter → State → State
claimed p i xs ws s = put p (with_slaves (process s p) xs) (with_waiting s (set s.waiting i ws))

-- HOW LARGE it is.
waiting_sized : (s : State) → Sized s → (ws : List (List Waiter)) → length ws ≤ Limit.THINGS → AllOf WaitersSized ws
    → Sized (with_waiting s ws)
waiting_sized s h ws few each = search

slaves_sized : (q : Process) → ProcessSized q → (xs : List Slave) → length xs ≤ No.places → AllOf SlaveSized xs
    → ProcessSized (with_slaves q xs)
slaves_sized q h xs few each = search

rest_sized : (k : ℕ) (ws : List Waiter) → WaitersSized ws → WaitersSized (drop k ws)
rest_sized k ws h =
    record { few = omega (arith, length-drop k ws, h.few); each = all_drop WaiterSized k ws h.each }

module _ (s : State) (h : Sized s) (i : ℕ) where
  pub less_waiting : (k : ℕ) → Sized (with_waiting s (set s.waiting i (drop k (get_or s.waiting i []))))
  less_waiting k =
      let ws : List Waiter = get_or s.waiting i [] in
      let o = all_get WaitersSized s.waiting i [] h.waiting_ok (record { few = omega arith; each = tt }) in
      waiting_sized s h (set s.waiting i (drop k ws))
      (omega (arith, length-set s.waiting i (drop k ws), h.syncs_few))
      (all_set WaitersSized s.waiting i (drop k ws) h.waiting_ok (rest_sized k ws o))

-- WHERE n WAIT, k of them claimed.
module _ (s : State) (h : Sized s) (p i n : ℕ) (g : Waiting p i n s) where
  abbrev q : Process
  q = process s p

  abbrev ws : List Waiter
  ws = get_or s.waiting i []

  abbrev up_to : ℕ → List Slave
  up_to k = q.slaves ++ map (as_slave i) (take k ws)

  abbrev at : ℕ → State
  at k = claimed p i (up_to k) (drop k ws) s

  in_place : (k : ℕ) → process (at k) p ≡ with_slaves q (up_to k)
  in_place k =
      put_there (with_waiting s (set s.waiting i (drop k ws))) p (with_slaves q (up_to k)) h.places_64
      g.lives.in_places

  still_wait : (k : ℕ) → get_or (at k).waiting i [] ≡ drop k ws
  still_wait k = get_or-set_same s.waiting i (drop k ws) [] g.there

  -- None; one more.
  pub none_yet : at 0 ≡ s
  none_yet =
      ap (λ xs. claimed p i xs ws s) (append-nil q.slaves)
      ∙ ap (λ ps. with_processes (with_waiting s (set s.waiting i ws)) ps) (set-get_or s.processes p nobody)
      ∙ ap (with_waiting s) (set-get_or s.waiting i [])

  again : (k : ℕ) (xs : List Slave) (vs : List Waiter) → claimed p i xs vs (at k) ≡ claimed p i xs vs s
  again k xs vs =
      ap (λ r. put p (with_slaves r xs) (with_waiting (at k) (set (at k).waiting i vs))) (in_place k)
      ∙ ap (with_processes (with_waiting (at k) (set (at k).waiting i vs)))
      (set-set s.processes p (with_slaves q (up_to k)) (with_slaves q xs))
      ∙ ap (λ u. put p (with_slaves q xs) (with_waiting s u)) (set-set s.waiting i (drop k ws) vs)

  next_up : (k : ℕ) → up_to k ++ map (as_slave i) (take 1 (drop k ws)) ≡ up_to (k + 1)
  next_up k =
      append_assoc q.slaves (map (as_slave i) (take k ws)) (map (as_slave i) (take 1 (drop k ws)))
      ∙ ap (λ xs. q.slaves ++ xs)
      (sym (map-append (as_slave i) (take k ws) (take 1 (drop k ws))) ∙ ap (map (as_slave i)) (sym (take-add k 1 ws)))

  one_further : (k : ℕ) → take_item p (get sync i 1) (at k) ≡ at (k + 1)
  unfolding take_item
  one_further k =
      let vs : List Waiter = get_or (at k).waiting i [] in
      ap (λ r. claimed p i (r.slaves ++ map (as_slave i) (take 1 vs)) (drop 1 vs) (at k)) (in_place k)
      ∙ ap (λ vs. claimed p i (up_to k ++ map (as_slave i) (take 1 vs)) (drop 1 vs) (at k)) (still_wait k)
      ∙ again k (up_to k ++ map (as_slave i) (take 1 (drop k ws))) (drop 1 (drop k ws))
      ∙ ap (λ xs. claimed p i xs (drop 1 (drop k ws)) s) (next_up k)
      ∙ ap (λ vs. claimed p i (up_to (k + 1)) vs s) (drop-drop 1 k ws)

  -- The slaves are a front of those in the end.
  module _ (e : Sized (at n)) where
    all_slaves : ProcessSized (with_slaves q (up_to n))
    all_slaves =
        sized_put (with_waiting s (set s.waiting i (drop n ws))) p (with_slaves q (up_to n)) h.places_64
        g.lives.in_places e

    at_sized : (k : ℕ) → k ≤ n → Sized (at k)
    at_sized k l =
        let more : List Slave = map (as_slave i) (take (n - k) (drop k ws)) in
        let m : n ≡ k + (n - k) = omega arith in
        let whole : up_to n ≡ up_to k ++ more =
        ap up_to m
        ∙ ap (λ xs. q.slaves ++ map (as_slave i) xs) (take-add k (n - k) ws)
        ∙ ap (λ xs. q.slaves ++ xs) (map-append (as_slave i) (take k ws) (take (n - k) (drop k ws)))
        ∙ sym (append_assoc q.slaves (map (as_slave i) (take k ws)) more) in
        let each = (all_split SlaveSized (up_to k) more (subst (AllOf SlaveSized) whole all_slaves.slaves_ok)).0 in
        put_sized (with_waiting s (set s.waiting i (drop k ws))) p (with_slaves q (up_to k)) (less_waiting s h i k)
        (slaves_sized q (process_sized s p h) (up_to k)
        (omega (arith, all_slaves.slaves_few, ap length whole, length-append (up_to k) more)) each)

    still_lives : (k : ℕ) → Lives p (at k)
    still_lives k =
        let o = g.lives in
        record {
          in_places = o.in_places;
          innermost = o.innermost;
          around = o.around;
          frames_are = ap (λ r. r.frames) (in_place k) ∙ o.frames_are;
        }

    turn : {w : List ℕ} (k : ℕ) → k < n → w ≡ work_of (at k) → Doing w (Waiting p i 1) (take_item p (get sync i 1))
    turn k l shows =
        record {
          is = at k;
          shows = shows;
          before = at_sized k (omega arith);
          after = subst Sized (sym (one_further k)) (at_sized (k + 1) (omega arith));
          given = record {
            lives = still_lives k;
            there = omega (arith, g.there, length-set s.waiting i (drop k ws));
            enough = omega (arith, g.enough, ap length (still_wait k), length-drop k ws);
          };
        }

module _ {w : List ℕ} {p i n : ℕ} (d : Doing w (Waiting p i n) (take_item p (get sync i n))) where
  abbrev after : ℕ → State
  after k = take_item p (get sync i k) d.is

  pub none_claimed : w ≡ work_of (after 0)
  unfolding take_item
  none_claimed = d.shows ∙ ap work_of (sym (none_yet d.is d.before p i n d.given))

  pub still_long : {x : List ℕ} (k : ℕ) → k ≤ n → x ≡ work_of (after k) → length x ≡ Row.WORDS
  unfolding take_item
  still_long k l e = ap length e ∙ work_long (after k) (at_sized d.is d.before p i n d.given d.after k l)

  pub all_claimed : {x : List ℕ} (k : ℕ) → k ≡ n → x ≡ work_of (after k) → x ≡ work_of (after n)
  all_claimed k l e = e ∙ ap (λ j. work_of (after j)) l

  module _ {x : List ℕ} (k : ℕ) (l : k < n) (e : x ≡ work_of (after k)) where
    pub next_claim : Doing x (Waiting p i 1) (take_item p (get sync i 1))
    unfolding take_item
    next_claim = turn d.is d.before p i n d.given d.after k l e

    pub one_claimed : {y : List ℕ} → Done x (Waiting p i 1) (take_item p (get sync i 1)) y → y ≡ work_of (after (k + 1))
    unfolding take_item next_claim turn
    one_claimed f = f next_claim ∙ ap work_of (one_further d.is d.before p i n d.given k)

-- ONE: it leaves its list, and joins the slaves.
module _ {w : List ℕ} {p i : ℕ} (d : Doing w (Waiting p i 1) (take_item p (get sync i 1))) where
  abbrev s : State
  s = d.is

  waits : Waits i s
  waits = by (get_or s.waiting i []) refl d.given.enough
    where
      by : (vs : List Waiter) → get_or s.waiting i [] ≡ vs → 1 ≤ length vs → Waits i s
      by [] e m = absurd (omega arith)
      by (v ∷ vs) e m = record { there = d.given.there; first = v; behind = vs; waiting_are = e }

  pub takes_first : Doing w (Waits i) (taken_waiting i)
  takes_first =
      record { is = s; shows = d.shows; before = d.before; after = less_waiting s d.before i 1; given = waits }

  module _ {r : ℕ} {x : List ℕ} (t : TakenWaiting w i r x takes_first) where
    comes_to : changed p (joined i r) (taken_waiting i s) ≡ take_item p (get sync i 1) s
    unfolding take_item takes_first
    comes_to =
        ap (λ xs. put p (with_slaves (process s p) ((process s p).slaves ++ xs)) (taken_waiting i s))
        (ap (λ j. record { of = i; place = j } ∷ []) t.place_is
        ∙ sym (ap (λ vs. map (as_slave i) (take 1 vs)) waits.waiting_are))

    pub adds_it : Doing x (Lives p) (changed p (joined i r))
    unfolding takes_first
    adds_it =
        let o = d.given.lives in
        record {
          is = taken_waiting i s;
          shows = t.done;
          before = less_waiting s d.before i 1;
          after = subst Sized (sym comes_to) d.after;
          given = record {
            in_places = o.in_places;
            innermost = o.innermost;
            around = o.around;
            frames_are = o.frames_are;
          };
        }

    pub is_claimed : {y : List ℕ} → Done x (Lives p) (changed p (joined i r)) y → y ≡ work_of (take_item p (get sync i 1) s)
    unfolding adds_it
    is_claimed f = f adds_it ∙ ap work_of comes_to
