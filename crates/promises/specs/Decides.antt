-- The test sound_in decides Sound: its clauses, split in document 01's order, against the record that the promises carry.
-- Assumes nothing.
use Rattle.std.specs.Prelude.{ℕ, ◌+◌, ◌≤◌, ◌<◌, ◌≡◌, refl, List, [], ◌∷◌, map, Bool, true, false, eqb, ltb, length, if◌then◌else◌}
use Rattle.std.proofs.Common.{arith, ap, ◌∙◌, ltb-true, ltb-false}
use Rattle.std.proofs.Math.ListN.{get_or-eq_default}
use Rattle.semantics.specs.Words.{is_empty, keep}
use Rattle.semantics.specs.Numbers as No
use Rattle.semantics.specs.Numbers.{lowest, of_returns}
use Rattle.semantics.specs.State.{State, Process, Frame, Notice, wakes, returns_r, returns_b, Floor, empty, held_by}
use Rattle.semantics.specs.State.{nobody, process, is_free}
use Rattle.semantics.specs.Sound as Test
use Rattle.semantics.specs.Sound.{vacant, furnished, event_tied, waiter_tied, process_in_range, return_in_range, event_in_range}
use Rattle.semantics.specs.Sound.{chained, all_chained, own_number, own_numbers, woken, waiters_places, listed, in_one, adds_up}
use Rattle.semantics.specs.Sound.{sound_in}
use Rattle.promises.specs.Laws.{AllOf, over, over-append, over_zero, over_same, over-map}
use Rattle.promises.specs.Laws.{over-collect, once, once_self, once_apart, keep-once}
use Rattle.promises.specs.Sound.{al, on_floor, noticed, in_events, waits, in_all, owned}
use Rattle.promises.specs.Sound.{InOne}
use Rattle.promises.specs.Says.{Says, says_for, ◌and◌, says_lt, says_eq}
use Rattle.promises.specs.Says.{says_all, says_up_to}

-- What holds of the numbers below n, and of those from n on.
pub near_far : {P : ℕ → Type 0} (n : ℕ) → ((k : ℕ) → k < n → P k) → ((k : ℕ) → n ≤ k → P k) → (k : ℕ) → P k
near_far {P} n f g k = go (ltb k n) refl
  where
    go : (b : Bool) → ltb k n ≡ b → P k
    go true e = f k (ltb-true k n e)
    go false e = g k (ltb-false k n e)

-- IN EXACTLY ONE. Any sum over the places that are listed, and how often place k is.
pub over-listed : (f : ℕ → ℕ) (s : State)
    → over f (listed s)
    ≡ over f (Test.on_floor s.floor) + over (λ e. over f (woken e.notice)) s.events
    + over (λ w. f w.place) s.blocked + over (λ ws. over (λ w. f w.place) ws) s.waiting
    + over (λ q. over (λ x. f x.place) q.slaves) s.processes
over-listed f s =
    let es = over-collect f (λ e. woken e.notice) s.events in
    let bs = over-map f (λ w. w.place) s.blocked in
    let ws =
    over-collect f waiters_places s.waiting ∙ over_same _ _ (λ w. over-map f (λ w. w.place) w) s.waiting in
    let xs =
    over-collect f (λ q. map (λ x. x.place) q.slaves) s.processes
    ∙ over_same _ _ (λ q. over-map f (λ x. x.place) q.slaves) s.processes in
    simp (over-append f) (omega arith)

module _ (s : State) where
  pub in_listed : (k : ℕ)
      → over (once k) (listed s)
      ≡ in_events k s.events + in_all k s.waiting + owned k s.processes + waits k s.blocked + on_floor k s.floor
  in_listed k =
      let a = over-listed (once k) s in
      let e = over_same (λ e. over (once k) (woken e.notice)) _ (λ e. one e.notice) s.events in
      let f = floor s.floor in
      omega arith
    where
      one : (n : Notice) → over (once k) (woken n) ≡ noticed k n
      one (wakes p) = omega arith
      one (returns_r i a g) = refl
      one (returns_b i a g) = refl

      floor : (f : Floor) → over (once k) (Test.on_floor f) ≡ on_floor k f
      floor empty = refl
      floor (held_by p) = omega arith

  abbrev Once : ℕ → Type 0
  Once = InOne s.events s.waiting s.processes s.blocked (λ k. on_floor k s.floor)

  says_count : (k : ℕ)
      → Says (eqb (length (keep (eqb k) (listed s))) (if is_free (process s k) then 0 else 1)) (Once k)
  says_count k =
      let a = in_listed k in
      let b = keep-once k (λ p. p) (listed s) in
      let c = alive (process s k).frames in
      says_for (says_eq {a = length (keep (eqb k) (listed s))}) (λ h. omega arith) (λ h. omega arith)
    where
      alive : (fs : List Frame) → (if is_empty fs then 0 else 1) ≡ al fs
      alive [] = refl
      alive (f ∷ fs) = refl

  -- No place beyond the last is listed, and nobody lives there.
  near : (ps : List ℕ) → ((k : ℕ) → No.places ≤ k → over (once k) ps ≡ 0) → AllOf (λ p. p < No.places) ps
  near [] h = tt
  near (p ∷ ps) h = (go (ltb p No.places) refl, near ps (λ k l. let a = h k l in omega arith))
    where
      go : (b : Bool) → ltb p No.places ≡ b → p < No.places
      go true e = ltb-true p No.places e
      go false e = let a = h p (ltb-false p No.places e) in let b = once_self p in absurd (omega arith)

  far : AllOf (λ p. p < No.places) (listed s) → (k : ℕ) → No.places ≤ k → over (once k) (listed s) ≡ 0
  far h k l = over_zero (once k) (λ p. p < No.places) (λ p b. once_apart k p (λ e. absurd (omega arith))) (listed s) h

  pub says_in_one : length s.processes ≡ No.places → Says (in_one s) ((k : ℕ) → Once k)
  says_in_one n =
      says_for (says_all (λ p. says_lt) (listed s) and says_up_to says_count No.places)
      (λ h. near_far No.places h.1
      (λ k l. let a = in_listed k in let b = far h.0 k l in let c = dead k l in omega arith))
      (λ h. (near (listed s) (λ k l. let a = in_listed k in let b = h k in let c = dead k l in omega arith), λ k l. h k))
    where
      dead : (k : ℕ) → No.places ≤ k → al (process s k).frames ≡ 0
      dead k l = ap (λ (q : Process). al q.frames) (get_or-eq_default s.processes nobody (omega arith))
