-- The orders that a run's lists keep, entering such a list, and who is alive.
-- Assumes nothing.
use Rattle.std.specs.Prelude.{ℕ, zero, suc, ◌+◌, ◌≤◌, ◌<◌, ◌≡◌, refl, List, [], ◌∷◌, true, not, eqb, ltb, length, get_or, ℤ, pos, negsuc, if◌then◌else◌}
use Rattle.std.proofs.Common.{arith, ap, ◌∙◌, ltb-true, eqb-true}
use Rattle.std.specs.Int.Signed.{lt_z}
use Rattle.semantics.specs.Words.{is_empty, first_at}
use Rattle.semantics.specs.Model.{Model}
use Rattle.semantics.specs.State.{State, Process, Frame, Waiter, Event, nobody, process, is_free, living, sooner, higher, enter}
use Rattle.semantics.specs.State.{join}
use Rattle.promises.specs.Laws.{no_way, and-true, or-true, not-false, AllOf, all_insert, Ordered, ordered_insert, over}
use Rattle.promises.specs.Laws.{over-insert, over-keep, over_same, once}
use Rattle.promises.specs.Sound.{Below, al, waits, Fine, Vacant, ProcOk, Late, Ranked}
use Rattle.promises.specs.Says.{says_ranked, says_late}

-- WHOLE NUMBERS.
lt_below : (x y : ℤ) → lt_z x y ≡ true → Below x y
lt_below (pos a) (pos b) e = let h = ltb-true a b e in omega arith
lt_below (pos a) (negsuc b) e = no_way e
lt_below (negsuc a) (pos b) e = omega arith
lt_below (negsuc a) (negsuc b) e = let h = ltb-true b a e in omega arith

-- THE EVENT LIST: its order, and what entering keeps.
soon_late : (e f : Event) → sooner e f ≡ true → Late e f
soon_late e f h =
    or-true (ltb e.time f.time) _ h (Late e f)
    (λ a. let t = ltb-true e.time f.time a in record { in_time = omega arith; in_rank = λ g. absurd (omega arith) })
    (λ a.
    let b = and-true (eqb e.time f.time) _ a in
    let t = eqb-true e.time f.time b.0 in
    record { in_time = omega arith; in_rank = λ g. lt_below _ _ b.1 })

late_trans : (e f g : Event) → Late e f → Late f g → Late e g
late_trans e f g a b =
    record {
      in_time = omega arith;
      in_rank = λ h. let a₁ = a.in_rank (omega arith) in let b₁ = b.in_rank (omega arith) in omega arith;
    }

module _ (e : Event) (es : List Event) where
  pub enter_all : (P : Event → Type 0) → P e → AllOf P es → AllOf P (enter e es)
  unfolding enter
  enter_all P p h = all_insert P sooner e es p h

  pub enter_ordered : Ordered Late es → Ordered Late (enter e es)
  unfolding enter
  enter_ordered h =
      ordered_insert Late late_trans sooner soon_late (λ x y g. (says_late y x).yes (not-false _ g)) e es h

  pub enter-over : (f : Event → ℕ) → over f (enter e es) ≡ f e + over f es
  unfolding enter
  enter-over f = over-insert f sooner e es

-- A LIST OF WAITERS: what joining keeps.
module _ (s : State) (p : ℕ) (ws : List Waiter) where
  pub join_all :
      (P : Waiter → Type 0) → P (record { priority = (process s p).priority; place = p }) → AllOf P ws → AllOf P (join s p ws)
  unfolding join
  join_all P x h = all_insert P higher _ ws x h

  pub join_ordered : Ordered Ranked ws → Ordered Ranked (join s p ws)
  unfolding join
  join_ordered h =
      ordered_insert Ranked (λ x y z a b. omega arith) higher (λ x y g. lt_below _ _ g)
      (λ x y g. (says_ranked y x).yes (not-false _ g)) _ ws h

  pub join-waits : (k : ℕ) → waits k (join s p ws) ≡ once k p + waits k ws
  unfolding join
  join-waits k = over-insert _ higher _ ws

-- What counts nothing at a place looks at no change there.
pub away : {A : Type 0} (f : A → ℕ) (P Q : A → Type 0) → ((a : A) → f a ≡ 0 → P a → Q a) → (xs : List A) → over f xs ≡ 0
    → AllOf P xs → AllOf Q xs
away f P Q g [] e h = tt
away f P Q g (x ∷ xs) e h = (g x (omega arith) h.0, away f P Q g xs (omega arith) h.1)

-- WHO IS ALIVE.
pub al_one : (fs : List Frame) → al fs ≤ 1
al_one [] = omega arith
al_one (f ∷ fs) = omega arith

pub al_none : (fs : List Frame) → al fs ≡ 0 → fs ≡ []
al_none [] e = refl
al_none (f ∷ fs) e = absurd (omega arith)

pub alive_in : (ps : List Process) (k : ℕ) → 1 ≤ al (get_or ps k nobody).frames → k < length ps
alive_in [] k h = absurd (omega arith)
alive_in (x ∷ xs) zero h = omega arith
alive_in (x ∷ xs) (suc k) h = let ih = alive_in xs k h in omega arith

-- A place is free, or somebody lives there who is in order.
pub free_or_fine : {m : Model} {n : ℕ} {q : Process} (P : Type 0) → ProcOk m n q → (al q.frames ≡ 0 → Vacant q → P)
    → (1 ≤ al q.frames → Fine m n q → P) → P
free_or_fine {q = q} P o f g = go (al q.frames) refl
  where
    go : (a : ℕ) → al q.frames ≡ a → P
    go zero e = f e (o.dead e)
    go (suc a) e = let l : 1 ≤ al q.frames = omega arith in g l (o.live l)

abbrev pub living_in : List Process → ℕ
living_in ps = over (λ q. al q.frames) ps

pub living_are : (s : State) → living s ≡ living_in s.processes
living_are s = over-keep (λ q. not (is_free q)) s.processes ∙ over_same _ _ (λ q. one q.frames) s.processes
  where
    one : (fs : List Frame) → (if not (is_empty fs) then 1 else 0) ≡ al fs
    one [] = refl
    one (f ∷ fs) = refl

-- The lowest-numbered free place is a place, and nobody lives there.
abbrev pub FreeAt : List Process → ℕ → Type 0
FreeAt ps p = (p < length ps) × (al (get_or ps p nobody).frames ≡ 0)

pub some_free : (ps : List Process) → living_in ps < length ps → FreeAt ps (first_at is_free ps)
some_free [] h = absurd (omega arith)
some_free (q ∷ qs) h = go q.frames refl (some_free qs) h
  where
    go :
        (fs : List Frame) → q.frames ≡ fs → (living_in qs < length qs → FreeAt qs (first_at is_free qs))
        → al fs + living_in qs < suc (length qs) → FreeAt (q ∷ qs) (if is_empty fs then 0 else suc (first_at is_free qs))
    go [] e ih g = (omega arith, ap al e)
    go (f ∷ fs) e ih g = let a = ih (omega arith) in (omega arith, a.1)
