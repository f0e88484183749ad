-- Demand 3 over calls: from fresh on, a model whose bound is a number makes no more steps than that and has ended by then; and
-- exactly so many if it has no TRY and nothing is left. From fresh on a call is the run: the test for 20 is always passed.
-- Assumes nothing.
use Prim.Native.Nat.{ℕ, ◌+◌, ◌≤◌}
use native.Mathlib.Omega.{arith}
use Rattle.std.proofs.Math.Nat.{zero-add}
use Rattle.std.specs.Prelude.{◌≡◌, Bool, true, false, get_or, if◌then◌else◌}
use Rattle.std.proofs.Math.Path.{refl, ap}
use Rattle.std.proofs.Common.{◌∙◌}
use mathlib.Core.List.{List, [], ◌∷◌, map}
use Rattle.std.proofs.Math.ListN.{length, length-set}
use Rattle.semantics.specs.Numbers as No
use Rattle.semantics.specs.Model.{Model, Entity}
use Rattle.semantics.specs.Decode.{accepted, decode}
use Rattle.semantics.specs.State.{State, Process, Frame, Waiter, Event, Notice, wakes, returns_r, returns_b, Floor, empty, held_by}
use Rattle.semantics.specs.State.{nobody, process, free_place, newcomer, wake, begin, begin_all, bare, fresh}
use Rattle.semantics.specs.Walk.{Line}
use Rattle.semantics.specs.Step.{step}
use Rattle.semantics.specs.Run.{Answer, Ran, goes_on, before, Room, run, Ask, call, is_number, no_end, leaves, steps_of, limits_of}
use Rattle.semantics.specs.Run.{none_ends}
use Rattle.semantics.specs.Bound.{class_weight, bound}
use Rattle.promises.specs.Laws.{no_way, and-true, good_out, AllOf, over, over-set, over_zero, over_most, over-length}
use Rattle.promises.specs.Laws.{over-map, once}
use Rattle.promises.specs.Fit.{Forward}
use Rattle.promises.specs.Accepted.{accepted_fit}
use Rattle.promises.specs.Sound.{al, on_floor, noticed, in_events, waits, owes, returning, Sound}
use Rattle.promises.specs.Keep.{living_in, FreeAt, some_free}
use Rattle.promises.proofs.Stays.{step_ok}
use Rattle.promises.proofs.FreshSound.{fresh_sound}
use Rattle.promises.specs.Capacity.{room}
use Rattle.promises.specs.Safe.{idle_stops}
use Rattle.promises.specs.Answers.{run_keeps, Why, was_closed, was_idle, at_limit, at_fault, no_room, run_why}
use Rattle.promises.proofs.Calls.{call_is, run_sound, calls_sound}
use Rattle.promises.specs.Left.{exactly, likewise, together, no_try, no_try_lem, frames_left, all_left, total, Fell, Falls}
use Rattle.promises.specs.Left.{begin-total, begin_blocked, step_falls}

-- FRESH. What is left of it is the bound.
module _ (m : Model) where
  begin_alive : (c d : ℕ) (h : List ℕ) (s : State) → FreeAt s.processes (free_place s)
      → (living_in (begin m c d h s).processes ≡ 1 + living_in s.processes)
      × (length (begin m c d h s).processes ≡ length s.processes)
  unfolding begin wake
  begin_alive c d h s l =
      let new = newcomer m (s.last + 1) c h in
      let x = over-set (λ q. al q.frames) s.processes (free_place s) new nobody l.0 in
      let z = l.1 in
      (omega arith, length-set s.processes (free_place s) new)

  begin_all-total : Forward m → (es : List Entity) (s : State) → length es + living_in s.processes ≤ length s.processes
      → (total m (begin_all m es s) ≡ total m s + over (λ e. class_weight m e.class) es)
      × (length (begin_all m es s).blocked ≡ length s.blocked)
  unfolding begin_all class_weight
  begin_all-total t [] s h = (omega arith, refl)
  begin_all-total t (e ∷ es) s h =
      let z : List ℕ = map (λ n. 0) m.totals in
      let i = some_free s.processes (omega arith) in
      let x = begin_alive e.class e.offset z s i in
      let x₁ = x.0 in let x₂ = x.1 in
      let y = begin-total m t e.class e.offset z s i in
      let b = begin_blocked m e.class e.offset z s in
      let ih = begin_all-total t es (begin m e.class e.offset z s) (omega arith) in
      let i₁ = ih.0 in let i₂ = ih.1 in
      (omega arith, omega arith)

  fresh-total : Forward m → length m.entities ≤ No.most_entities
      → (total m (fresh m) ≡ bound m) × (length (fresh m).blocked ≡ 0)
  unfolding fresh bound total
  fresh-total t h =
      let l : length m.entities + 0 ≤ No.most_entities = omega arith in
      let z = begin_all-total t m.entities (bare m) l in
      (z.0 ∙ zero-add _, z.1)

module _ (m : Model) where
  alive_left : (fs : List Frame) → al fs ≤ frames_left m fs
  alive_left [] = omega arith
  alive_left (f ∷ fs) = omega arith

  -- Places that are listed at most as often as somebody lives there are no more than the steps that are left to those.
  listed_left : (ws : List Waiter) (ps : List Process) → ((k : ℕ) → waits k ws ≤ al (get_or ps k nobody).frames)
      → length ws ≤ all_left m ps
  listed_left ws ps h =
      let place : Waiter → ℕ = λ w. w.place in
      let a = room (map place ws) ps (λ k. let b = over-map (once k) place ws in let c = h k in omega arith) in
      let d = over-map (λ p. 1) place ws in
      let e = over-length ws in
      let f = over_most (λ q. al q.frames) (λ q. frames_left m q.frames) (λ q. alive_left q.frames) ps in
      omega arith

  nothing_left : (ps : List Process) → AllOf (λ q. q.frames ≡ []) ps → all_left m ps ≡ 0
  nothing_left = over_zero (λ q. frames_left m q.frames) (λ q. q.frames ≡ []) (λ q e. ap (frames_left m) e)

  module _ (s : State) (h : Sound m s) where
    blocked_left : length s.blocked ≤ all_left m s.processes
    blocked_left = listed_left s.blocked s.processes (λ k. let a = h.in_one k in omega arith)

    -- A state from which the run goes on has a step left that no blocked process has paid.
    some_left : before s ≡ goes_on → length s.blocked + 1 ≤ total m s
    unfolding total
    some_left e = go s.floor s.events refl refl
      where
        -- who has the floor or wakes next is alive and not blocked
        one_more : (p : ℕ) → ((k : ℕ) → once k p ≤ on_floor k s.floor + in_events k s.events)
            → length s.blocked + 1 ≤ all_left m s.processes
        one_more p g =
            let w : Waiter = record { priority = (process s p).priority; place = p } in
            let x = listed_left (w ∷ s.blocked) s.processes (λ k. let a = g k in let b = h.in_one k in omega arith) in
            omega arith

        at_first : (n : Notice) (x : Event) (xs : List Event) → s.events ≡ x ∷ xs → x.notice ≡ n
            → length s.blocked + 1 ≤ all_left m s.processes + returning s.events
        at_first (wakes p) x xs e g =
            let y = one_more p (λ k. let a = ap (in_events k) e in let b = ap (noticed k) g in omega arith) in omega arith
        at_first (returns_r i n b) x xs e g =
            let y = blocked_left in let a = ap returning e in let c = ap owes g in omega arith
        at_first (returns_b i n b) x xs e g =
            let y = blocked_left in let a = ap returning e in let c = ap owes g in omega arith

        go : (f : Floor) (es : List Event) → s.floor ≡ f → s.events ≡ es
            → length s.blocked + 1 ≤ all_left m s.processes + returning s.events
        go (held_by p) es ef ee = let x = one_more p (λ k. let a = ap (on_floor k) ef in omega arith) in omega arith
        go empty [] ef ee = absurd (idle_stops s.closed (rw (ef, ee) at e))
        go empty (x ∷ xs) ef ee = at_first x.notice x xs ee refl

-- ONE CALL on a sound run. LIMIT comes after as many steps as the limit, and where LIMIT or 30 is answered the run could go on.
abbrev Counts : ℕ → Answer → ℕ → State → Type 0
Counts n a k t = ((if is_number No.JOURNAL a then 0 else n) ≤ k) × (before t ≡ goes_on)

no_end_lem : {m : Model} {n : ℕ} {r : Room} {a : Answer} {k : ℕ} {ls : List Line} {t : State} → Why m n r a k ls t
    → no_end a ≡ true → Counts n a k t
no_end_lem (was_closed e) h = no_way h
no_end_lem (was_idle e) h = no_way h
no_end_lem (at_limit e g) h = (omega arith, e)
no_end_lem (at_fault e g f) h = (rw h (omega arith), e)
no_end_lem (no_room e g f j) h = (omega arith, e)

-- What a call on s with limit n does, if it leaves y.
record Does (m : Model) (n : ℕ) (s : State) (y : Ran) : Type 0 where
  is_sound : Sound m y.state
  falls : Fell m s y.steps y.state
  counts : no_end y.answer ≡ true → Counts n y.answer y.steps y.state

module _ (bs : List ℕ) (m : Model) (e : decode bs ≡ accepted m) (f : Forward m) where
  fresh_ok : Sound m (fresh m)
  fresh_ok = fresh_sound m (accepted_fit bs m e)

  run_falls : (n : ℕ) (r : Room) (s : State) → Sound m s → Fell m s (run m n r s).steps (run m n r s).state
  run_falls =
      run_keeps m (λ n r s y. Sound m s → Fell m s y.steps y.state) (λ n r s a h. exactly (omega arith))
      (λ n r s x y b g l ih h.
      let one = good_out (Falls m s) (step m s) x g (step_falls m f s h) in
      let rest = ih (step_ok m (accepted_fit bs m e) s h x g) in
      likewise (together one rest) (omega arith))

  does : (a : Ask) (s : State) → Sound m s → Does m a.limit s (call bs a s)
  does a s h =
      rw (call_is bs m e a s h)
      (record {
        is_sound = run_sound m (accepted_fit bs m e) a.limit a.room s h;
        falls = run_falls a.limit a.room s h;
        counts = no_end_lem (run_why m a.limit a.room s);
      })

  -- CALLS from a sound run.
  calls_fall : (l : List Ask) (s : State) → Sound m s → Fell m s (steps_of bs l s) (leaves bs l s)
  calls_fall [] s h = exactly (omega arith)
  calls_fall (a ∷ l) s h =
      let d = does a s h in
      likewise (together d.falls (calls_fall l (call bs a s).state d.is_sound)) (omega arith)

  -- As long as no call answers an end, a step is left beside those that the limits allowed.
  abbrev Remains : List Ask → State → Type 0
  Remains l s = limits_of bs l s + length s.blocked + 1 ≤ total m s

  remains_first : (a : Ask) (l : List Ask) (s : State) → Sound m s → no_end (call bs a s).answer ≡ true
      → (before (call bs a s).state ≡ goes_on → Remains l (call bs a s).state) → Remains (a ∷ l) s
  remains_first a l s h n rest =
      let d = does a s h in
      let c = d.counts n in
      let c₁ = c.0 in
      let x = d.falls.le in
      let y = rest c.1 in
      omega arith

  remains : (a : Ask) (l : List Ask) (s : State) → Sound m s → none_ends bs (a ∷ l) s ≡ true → Remains (a ∷ l) s
  remains a [] s h n =
      remains_first a [] s h (and-true _ _ n).0 λ g.
      let x = some_left m (call bs a s).state (does a s h).is_sound g in omega arith
  remains a (b ∷ l) s h n =
      let c = and-true (no_end (call bs a s).answer) _ n in
      remains_first a (b ∷ l) s h c.0 λ g. remains b l (call bs a s).state (does a s h).is_sound c.1

  -- CALLS FROM FRESH.
  -- Whatever the limits and rooms, all calls together make no more steps than the bound.
  pub steps_at_most : (l : List Ask) → steps_of bs l (fresh m) ≤ bound m
  unfolding total
  steps_at_most l =
      let b = blocked_left m (leaves bs l (fresh m)) (calls_sound bs m e l) in
      let c = (calls_fall l (fresh m) fresh_ok).le in
      let t = fresh-total m f (accepted_fit bs m e).few_entities in let t₁ = t.0 in let t₂ = t.1 in
      omega arith

  -- When the limits of the calls that don't answer 30 add up to the bound, some call has answered an end.
  pub ended_by_the_bound : (a : Ask) (l : List Ask) → bound m ≤ limits_of bs (a ∷ l) (fresh m)
      → none_ends bs (a ∷ l) (fresh m) ≡ false
  ended_by_the_bound a l b = go (none_ends bs (a ∷ l) (fresh m)) refl
    where
      go : (x : Bool) → none_ends bs (a ∷ l) (fresh m) ≡ x → x ≡ false
      go false n = refl
      go true n =
          let x = remains a l (fresh m) fresh_ok n in
          let t = (fresh-total m f (accepted_fit bs m e).few_entities).0 in
          absurd (omega arith)

  -- Without TRY, when the event list is empty and every process has ended, the steps are the bound.
  pub exactly_the_bound : no_try m ≡ true → (l : List Ask) → (leaves bs l (fresh m)).events ≡ []
      → AllOf (λ q. q.frames ≡ []) (leaves bs l (fresh m)).processes → steps_of bs l (fresh m) ≡ bound m
  unfolding total
  exactly_the_bound q l v p =
      let b = blocked_left m (leaves bs l (fresh m)) (calls_sound bs m e l) in
      let c = (calls_fall l (fresh m) fresh_ok).eq (no_try_lem m q) in
      let t = fresh-total m f (accepted_fit bs m e).few_entities in let t₁ = t.0 in let t₂ = t.1 in
      let n = nothing_left m (leaves bs l (fresh m)).processes p in
      let r = ap returning v in
      omega arith
