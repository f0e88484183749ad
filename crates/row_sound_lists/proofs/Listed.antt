-- How often a place is listed, and that each living one is once. Assumes nothing.
use Rattle.std.specs.Prelude.{if◌then◌else◌}
use Prim.Native.Nat.{ℕ, suc, ◌+◌, ◌%◌, ◌<◌}
use native.Mathlib.Omega.{arith}
use mathlib.Core.Path.{◌≡◌, refl, sym, ◌∙◌, ap}
use mathlib.Core.List.{List, [], ◌∷◌, map}
use mathlib.Core.Bool.{Bool, true, false, not, ◌&&◌}
use lib.Dec.{eqb, ltb}
use borrow.Author.Tests.{lt-ltb, ne_eqb, eq-eqb, eqb-true, eqb-false}
use lib.ListN.{length, get_or}
use Rattle.semantics.specs.Words.{is_empty, keep, collect}
use Rattle.semantics.specs.State.{State, Frame, Slave, Waiter, Notice, wakes, returns_r, returns_b, Floor, empty, held_by, nobody}
use Rattle.semantics.specs.State.{process, is_free}
use Rattle.semantics.specs.Sound.{on_floor, woken, waiters_places, listed, in_one}
use Rattle.promises.specs.Laws.{AllOf, all_map, all_append, all_get, over, over-keep}
use Rattle.promises.specs.Decides.{over-listed}
use Rattle.base_ordered.specs.Lines.{packed, kind_of, number_of, data_of}
use Rattle.base_ordered.specs.Order.{kind_packed, number-packed, word_place}
use Rattle.row_work.specs.Work.{floor_word, slave_word, SlaveSized, WaiterSized, WaitersSized}
use Rattle.row_work.specs.Work.{ProcessSized, EventSized, NoticeSized}
use Rattle.row_work.specs.Work.{FloorSized, Sized}
use Rattle.row_process.specs.Process.{Shown}
use Rattle.row_lists.specs.Queues.{Queue}
use Rattle.semantics.specs.Numbers as No
use Rattle.base_numbers.specs.Row as Row
use Rattle.base_numbers.specs.Process as Process
use Rattle.base_numbers.specs.Word as Word
use Rattle.row_process.proofs.Standing as Stand
use Rattle.row_lists.proofs.Events as Ev
use Rattle.row_lists.proofs.Waiting as Wait
use Rattle.row_sound_lists.specs.Tests.{each, one_if, word_of, in_events, in_queue, in_waiting, in_slaves, owned, place_listed}
use Rattle.row_sound_lists.proofs.Indices.{each_same, tally-over, all_true}
use Rattle.row_sound_lists.proofs.Reading.{no_event, no_waiter, no_slave, floor_is, word_at, event_sized, waiter_at}
use Rattle.row_sound_lists.proofs.Reading.{waiter_sized, slave_at, sized_there}

module _ {w : List ℕ} {P : State → Type 0} (v : Shown w P) (p : ℕ) where
  abbrev s : State
  s = v.is

  -- One for the place p.
  abbrev here : ℕ → ℕ
  here j = one_if (eqb p j)

  notice_is : (n : Notice) → NoticeSized n
      → one_if (eqb (kind_of (data_of n)) 0 && eqb p (number_of (data_of n))) ≡ over here (woken n)
  notice_is (wakes j) h =
      ap (λ k. one_if (eqb k 0 && eqb p (number_of (packed 0 j 0 0)))) (kind_packed 0 j 0 0 (omega arith) h (omega arith))
      ∙ ap here (number-packed 0 j 0 0 (omega arith) h (omega arith))
      ∙ omega arith
  notice_is (returns_r i n g) h =
      ap (λ k. one_if (eqb k 0 && eqb p (number_of (packed 1 i n g))))
      (kind_packed 1 i n g (omega arith) (omega (arith, h.0)) (omega (arith, h.1.0)))
  notice_is (returns_b i n g) h =
      ap (λ k. one_if (eqb k 0 && eqb p (number_of (packed 2 i n g))))
      (kind_packed 2 i n g (omega arith) (omega (arith, h.0)) (omega (arith, h.1.0)))

  events_are : in_events w p ≡ over (λ e. over here (woken e.notice)) s.events
  events_are =
      tally-over no_event (λ e. over here (woken e.notice)) _ s.events _ (Ev.count_is v)
      (λ k h. ap (λ word. one_if (eqb (kind_of word) 0 && eqb p (number_of word))) (word_at v k h)
      ∙ notice_is (get_or s.events k no_event).notice (event_sized v k h).notice_ok)

  queue_is : {from count : ℕ} {ws : List Waiter} → Queue w from count ws
      → in_queue w from count p ≡ over (λ x. here x.place) ws
  queue_is {ws = ws} q =
      tally-over no_waiter (λ x. here x.place) _ ws _ q.count_is
      (λ k h. ap (λ n. here (n % Word.PLACES)) (waiter_at q k h)
      ∙ ap here (word_place (get_or ws k no_waiter) (waiter_sized q k).place_low))

  waiting_are : (syncs : ℕ) → syncs ≡ length s.waiting
      → in_waiting w syncs p ≡ over (λ ws. over (λ x. here x.place) ws) s.waiting
  waiting_are syncs e =
      tally-over [] (λ ws. over (λ x. here x.place) ws) _ s.waiting syncs e (λ i h. queue_is (Wait.waiting_queue v i h))

  slaves_are : (q : ℕ) → q < No.places → in_slaves w p q ≡ over (λ x. here x.place) (process s q).slaves
  slaves_are q l =
      tally-over no_slave (λ x. here x.place) _ (process s q).slaves _ (Stand.slaves_are v q l)
      (λ k h. ap (λ n. here (n % Word.PLACES)) (slave_at v q l k h) ∙ ap here (place_in k))
    where
      place_in : (k : ℕ) → slave_word (get_or (process s q).slaves k no_slave) % Word.PLACES
          ≡ (get_or (process s q).slaves k no_slave).place
      place_in k =
          let x : Slave = get_or (process s q).slaves k no_slave in
          let z : SlaveSized x =
          all_get SlaveSized (process s q).slaves k no_slave (sized_there v q l).slaves_ok (omega arith) in
          omega (arith, z.place_low)

  owned_are : owned w p ≡ over (λ q. over (λ x. here x.place) q.slaves) s.processes
  owned_are =
      tally-over nobody (λ q. over (λ x. here x.place) q.slaves) _ s.processes No.places (sym v.sized.places_64)
      (λ q h. slaves_are q (omega (arith, v.sized.places_64)))

  floor_here : one_if (eqb (get_or w Row.FLOOR 0) (p + 1)) ≡ over here (on_floor s.floor)
  floor_here = ap (λ n. one_if (eqb n (p + 1))) (floor_is v) ∙ by s.floor
    where
      by : (f : Floor) → one_if (eqb (floor_word f) (p + 1)) ≡ over here (on_floor f)
      by empty = ap one_if (ne_eqb 0 (p + 1) (λ e. omega arith))
      by (held_by j) = same (eqb p j) refl
        where
          same : (b : Bool) → eqb p j ≡ b → one_if (eqb (j + 1) (p + 1)) ≡ one_if (eqb p j) + 0
          same true e =
              let a = eqb-true p j e in
              let c = ap one_if (eq-eqb (j + 1) (p + 1) (omega arith)) in
              let d = ap one_if e in
              omega arith
          same false e =
              let a = eqb-false p j e in
              let c = ap one_if (ne_eqb (j + 1) (p + 1) (λ z. a (omega arith))) in
              let d = ap one_if e in
              omega arith

  lives_is : p < No.places → one_if (not (eqb (word_of w p Process.DEPTH) 0)) ≡ (if is_free (process s p) then 0 else 1)
  lives_is l = ap (λ n. one_if (not (eqb n 0))) (Stand.depth_is v p l) ∙ by (process s p).frames
    where
      by : (fs : List Frame) → one_if (not (eqb (length fs) 0)) ≡ (if is_empty fs then 0 else 1)
      by [] = refl
      by (f ∷ fs) = ap (λ b. one_if (not b)) (ne_eqb (suc (length fs)) 0 (λ e. omega arith))

  place_is : (syncs : ℕ) → syncs ≡ length s.waiting → p < No.places
      → place_listed w syncs p ≡ eqb (length (keep (eqb p) (listed s))) (if is_free (process s p) then 0 else 1)
  place_is syncs e l =
      let a = floor_here in
      let b = events_are in
      let c = queue_is (Wait.blocked_queue v) in
      let d = waiting_are syncs e in
      let f = owned_are in
      let g = over-listed here s in
      let h = over-keep (eqb p) (listed s) in
      let n : ℕ = one_if (eqb (get_or w Row.FLOOR 0) (p + 1))
      + (in_events w p + (in_queue w Row.QUEUE Row.BLOCKED p + (in_waiting w syncs p + owned w p))) in
      let i : n ≡ length (keep (eqb p) (listed s)) = omega arith in
      ap (λ x. eqb x (one_if (not (eqb (word_of w p Process.DEPTH) 0)))) i
      ∙ ap (eqb (length (keep (eqb p) (listed s)))) (lives_is l)

-- EVERY PLACE LISTED is one of the 64.
abbrev Low : ℕ → Type 0
Low j = j < No.places

collect_low : {A : Type 0} (f : A → List ℕ) (G : A → Type 0) → ((a : A) → G a → AllOf Low (f a)) → (xs : List A) → AllOf G xs
    → AllOf Low (collect f xs)
collect_low f G h [] a = tt
collect_low f G h (x ∷ xs) a = all_append Low (f x) (collect f xs) (h x a.0) (collect_low f G h xs a.1)

map_low : {A : Type 0} (f : A → ℕ) (G : A → Type 0) → ((a : A) → G a → Low (f a)) → (xs : List A) → AllOf G xs
    → AllOf Low (map f xs)
map_low f G h [] a = tt
map_low f G h (x ∷ xs) a = (h x a.0, map_low f G h xs a.1)

woken_low : (n : Notice) → NoticeSized n → AllOf Low (woken n)
woken_low (wakes p) h = (h, tt)
woken_low (returns_r i n g) h = tt
woken_low (returns_b i n g) h = tt

floor_low : (f : Floor) → FloorSized f → AllOf Low (on_floor f)
floor_low empty h = tt
floor_low (held_by p) h = (h, tt)

waiters_low : (ws : List Waiter) → WaitersSized ws → AllOf Low (waiters_places ws)
waiters_low ws h = map_low (λ x. x.place) WaiterSized (λ x i. i.place_low) ws h.each

listed_low : (s : State) → Sized s → AllOf Low (listed s)
listed_low s h =
    all_append Low (on_floor s.floor) _ (floor_low s.floor h.floor_ok)
    (all_append Low (collect (λ e. woken e.notice) s.events) _
    (collect_low _ EventSized (λ e i. woken_low e.notice i.notice_ok) s.events h.events_ok)
    (all_append Low (waiters_places s.blocked) _ (waiters_low s.blocked h.blocked_ok)
    (all_append Low (collect waiters_places s.waiting) _ (collect_low _ WaitersSized waiters_low s.waiting h.waiting_ok)
    (collect_low _ ProcessSized (λ q i. map_low (λ x. x.place) SlaveSized (λ x j. j.place_low) q.slaves i.slaves_ok)
    s.processes h.processes_ok))))

module _ {w : List ℕ} {P : State → Type 0} (v : Shown w P) where
  pub in_one_is : (syncs : ℕ) → syncs ≡ length v.is.waiting → each No.places (place_listed w syncs) ≡ in_one v.is
  unfolding each
  in_one_is syncs e =
      each_same _ _ No.places (λ p l. place_is v p syncs e l)
      ∙ ap (λ (t : Bool). t
      && each No.places (λ p. eqb (length (keep (eqb p) (listed v.is))) (if is_free (process v.is p) then 0 else 1)))
      (sym (all_true (λ p. ltb p No.places) (listed v.is)
      (all_map Low _ (λ p h. lt-ltb p No.places h) (listed v.is) (listed_low v.is v.sized))))
