-- How long the lists of a sound run are, also in the middle of a step: what the engine's arrays must hold.
-- Assumes nothing.
use Rattle.std.specs.Prelude.{ℕ, ◌+◌, ◌≤◌, ◌<◌, ◌≡◌, refl, List, [], ◌∷◌, length, get_or, set}
use Rattle.std.proofs.Common.{arith, ap}
use Rattle.semantics.specs.Numbers as No
use Rattle.semantics.specs.Model.{Model}
use Rattle.semantics.specs.State.{State, Process, Event, Notice, wakes, returns_r, returns_b, nobody, empty, with_floor}
use Rattle.semantics.specs.Sound.{woken, listed}
use Rattle.promises.specs.Laws.{over, over-set, over_same, over_most, over-length, only, once, only_none, once_self}
use Rattle.promises.specs.Laws.{over_at}
use Rattle.promises.specs.Sound.{al, owes, returning, Held}
use Rattle.promises.specs.Keep.{al_one, alive_in, living_in}
use Rattle.promises.specs.Decides.{over-listed, in_listed}

-- 64 places can be listed once each; besides them 64 returns can be in the event list.
pub record Fitting (s : State) : Type 0 where
  pub events_fit : length s.events ≤ 128
  pub blocked_fit : length s.blocked ≤ No.places
  pub waiting_fit : over length s.waiting ≤ No.places
  pub slaves_fit : over (λ q. length q.slaves) s.processes ≤ No.places
  pub living_fit : over (λ q. al q.frames) s.processes ≤ No.places

-- Places listed no more often than somebody lives there are no more than the living: the first is listed, and its place emptied.
pub room : (l : List ℕ) (ps : List Process) → ((k : ℕ) → over (once k) l ≤ al (get_or ps k nobody).frames)
    → over (λ p. 1) l ≤ living_in ps
room [] ps h = omega arith
room (p ∷ l) ps h =
    let a = over-set (λ q. al q.frames) ps p nobody nobody is_in in
    let ih = room l (set ps p nobody) others in
    omega (arith, lives)
  where
    lives : al (get_or ps p nobody).frames ≡ 1
    lives = let a = h p in let b = once_self p in let c = al_one (get_or ps p nobody).frames in omega arith

    is_in : p < length ps
    is_in = alive_in ps p (omega (arith, lives))

    others : (k : ℕ) → over (once k) l ≤ al (get_or (set ps p nobody) k nobody).frames
    others k =
        let a = h k in
        let b = over_at (λ q. al q.frames) ps p k nobody nobody is_in in
        let c = only_none k p in
        let d = ap (only k p) lives in
        omega arith

-- An entry of the event list gives a process the floor, or is a return.
events_length : (es : List Event) → over (λ e. over (λ p. 1) (woken e.notice)) es + returning es ≡ length es
events_length [] = refl
events_length (e ∷ es) = let ih = events_length es in let a = one e.notice in omega arith
  where
    one : (n : Notice) → over (λ p. 1) (woken n) + owes n ≡ 1
    one (wakes p) = refl
    one (returns_r i a g) = refl
    one (returns_b i a g) = refl

-- What is in hand, on the floor or being moved, only leaves less for the lists: so they are taken with an empty floor.
pub lists_fit : (m : Model) (s : State) {z y : ℕ → ℕ} → Held m s s.blocked z y → Fitting s
lists_fit m s h =
    let t : State = with_floor s empty in
    let r = room (listed t) s.processes (λ k. let a = in_listed t k in let b = h.in_one k in omega arith) in
    let l = over-listed (λ p. 1) t in
    let v = over_most (λ q. al q.frames) (λ q. 1) (λ q. al_one q.frames) s.processes in
    let c = over-length s.processes in
    let n = h.places_64 in
    let e = events_length s.events in
    let f = h.few_returns in
    let b = over-length s.blocked in
    let w = over_same (over (λ w. 1)) length over-length s.waiting in
    let x = over_same (λ q. over (λ x. 1) q.slaves) _ (λ q. over-length q.slaves) s.processes in
    record {
      events_fit = omega arith;
      blocked_fit = omega arith;
      waiting_fit = omega arith;
      slaves_fit = omega arith;
      living_fit = omega arith;
    }
