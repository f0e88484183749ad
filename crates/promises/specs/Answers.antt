-- Demand 1 over the definitions: what a run's answer, steps, lines and state are, for every model, limit, room and state.
-- Assumes nothing.
use Prim.Native.Nat.{ℕ, zero, suc, ◌+◌, ◌-◌, ◌≤◌, ◌<◌}
use Rattle.std.proofs.Common.{arith, zero-add, suc-add, sym, ap, ◌∙◌, append_assoc, leb-true, leb-false, le-leb, length-append}
use Rattle.std.specs.Prelude.{◌≡◌, refl, List, [], ◌++◌, Bool, true, false, leb, length}
use Rattle.std.proofs.lemmas.Bool.{lt-leb}
use Rattle.semantics.specs.Words.{Outcome, ok, fails}
use Rattle.semantics.specs.Numbers as No
use Rattle.semantics.specs.Model.{Model}
use Rattle.semantics.specs.Decode.{Checked, refused, accepted, decode}
use Rattle.semantics.specs.State.{State}
use Rattle.semantics.specs.Walk.{Line, Next}
use Rattle.semantics.specs.Step.{step}
use Rattle.semantics.specs.Sound.{sound_in, sound}
use Rattle.semantics.specs.Run.{Answer, CLOSED, IDLE, LIMIT, FAULT, Ran, stopped, further, Before, is_closed, is_idle, goes_on}
use Rattle.semantics.specs.Run.{before, Room, endless, room_for, fits, left, run, Ask, call_in, call}

-- CASES of what a run asks before and in a step.
module _ {A : Type 0} (P : A → Type 0) where
  before_has : (b : Before) {x y z : A} → (b ≡ is_closed → P x) → (b ≡ is_idle → P y) → (b ≡ goes_on → P z)
      → P (elim b [ is_closed ↦ x | is_idle ↦ y | goes_on ↦ z ])
  before_has is_closed f g h = f refl
  before_has is_idle f g h = g refl
  before_has goes_on f g h = h refl

  outcome_has : {B : Type 0} (o : Outcome B) {x : ℕ → A} {y : B → A} → ((k : ℕ) → o ≡ fails k → P (x k))
      → ((b : B) → o ≡ ok b → P (y b)) → P (elim o [ fails k ↦ x k | ok b ↦ y b ])
  outcome_has (ok b) f g = g b refl
  outcome_has (fails k) f g = f k refl

  test_has : (b : Bool) {x y : A} → (b ≡ true → P x) → (b ≡ false → P y) → P (elim b [ true ↦ x | false ↦ y ])
  test_has true f g = f refl
  test_has false f g = g refl

-- A RUN BY ITS PARTS: what holds of a run that stops at once, and of one that makes a step and runs on, holds of every run.
module _ (m : Model) (P : ℕ → Room → State → Ran → Type 0)
    (closed : (n : ℕ) (r : Room) (s : State) → before s ≡ is_closed → P n r s (stopped CLOSED s))
    (idle : (n : ℕ) (r : Room) (s : State) → before s ≡ is_idle → P n r s (stopped IDLE s))
    (limit : (r : Room) (s : State) → before s ≡ goes_on → P zero r s (stopped LIMIT s))
    (fault : (n : ℕ) (r : Room) (s : State) (k : ℕ) → before s ≡ goes_on → step m s ≡ fails k
    → P (suc n) r s (stopped (FAULT k) s))
    (full : (n : ℕ) (r : Room) (s : State) (x : Next) → before s ≡ goes_on → step m s ≡ ok x → fits x.lines r ≡ false
    → P (suc n) r s (stopped (FAULT No.JOURNAL) s))
    (one : (n : ℕ) (r : Room) (s : State) (x : Next) (y : Ran) → before s ≡ goes_on → step m s ≡ ok x
    → fits x.lines r ≡ true → P n (left x.lines r) x.state y → P (suc n) r s (further x y)) where
  run_has : (n : ℕ) (r : Room) (s : State) → P n r s (run m n r s)
  unfolding run
  run_has zero r s = before_has (P zero r s) (before s) (closed zero r s) (idle zero r s) (limit r s)
  run_has (suc n) r s =
      before_has (P (suc n) r s) (before s) (closed (suc n) r s) (idle (suc n) r s) λ e.
      outcome_has (P (suc n) r s) (step m s) (λ k f. fault n r s k e f) λ x f.
      test_has (P (suc n) r s) (fits x.lines r)
      (λ g. one n r s x (run m n (left x.lines r) x.state) e f g (run_has n (left x.lines r) x.state))
      (full n r s x e f)

-- The same where it does not matter why a run stops.
pub run_keeps : (m : Model) (P : ℕ → Room → State → Ran → Type 0)
    → ((n : ℕ) (r : Room) (s : State) (a : Answer) → P n r s (stopped a s))
    → ((n : ℕ) (r : Room) (s : State) (x : Next) (y : Ran) → before s ≡ goes_on → step m s ≡ ok x
    → fits x.lines r ≡ true → P n (left x.lines r) x.state y → P (suc n) r s (further x y))
    → (n : ℕ) (r : Room) (s : State) → P n r s (run m n r s)
run_keeps m P stops one =
    run_has m P (λ n r s e. stops n r s CLOSED) (λ n r s e. stops n r s IDLE) (λ r s e. stops zero r s LIMIT)
    (λ n r s k e f. stops (suc n) r s (FAULT k)) (λ n r s x e f g. stops (suc n) r s (FAULT No.JOURNAL)) one

-- THE STEPS THAT A RUN MAKES: so many steps of the definition lead from one state to another and write these lines.
pub data Made (m : Model) : State → ℕ → List Line → State → Type 0 where
  none_made : {s : State} → Made m s 0 [] s
  one_made : {s t : State} {x : Next} {n : ℕ} {ls : List Line} → before s ≡ goes_on → step m s ≡ ok x → Made m x.state n ls t
      → Made m s (suc n) (x.lines ++ ls) t

-- The run makes exactly as many steps as it says, and leaves the state and the lines of these.
pub run_made : (m : Model) (n : ℕ) (r : Room) (s : State)
    → Made m s (run m n r s).steps (run m n r s).lines (run m n r s).state
run_made m =
    run_keeps m (λ n r s y. Made m s y.steps y.lines y.state) (λ n r s a. none_made)
    (λ n r s x y e f g h. one_made e f h)

pub steps_within : (m : Model) (n : ℕ) (r : Room) (s : State) → (run m n r s).steps ≤ n
steps_within m =
    run_keeps m (λ n r s y. y.steps ≤ n) (λ n r s a. omega arith) (λ n r s x y e f g h. omega arith)

-- ROOM. Where some lines fit, more fit if they fit into what is left.
fits_on : (xs ys : List Line) (r : Room) → fits xs r ≡ true → fits (xs ++ ys) r ≡ fits ys (left xs r)
fits_on xs ys endless h = refl
fits_on xs ys (room_for n) h = ap (λ k. leb k n) (length-append xs ys) ∙ taken (length xs) (length ys) n (leb-true (length xs) n h)
  where
    taken : (a b n : ℕ) → a ≤ n → leb (a + b) n ≡ leb b (n - a)
    taken a b n h = go (leb b (n - a)) refl
      where
        go : (x : Bool) → leb b (n - a) ≡ x → leb (a + b) n ≡ x
        go true e = let l = leb-true b (n - a) e in le-leb (a + b) n (omega arith)
        go false e = let l = leb-false b (n - a) e in lt-leb (a + b) n (omega arith)

none_fit : (r : Room) → fits [] r ≡ true
none_fit endless = refl
none_fit (room_for n) = le-leb 0 n (omega arith)

pub lines_fit : (m : Model) (n : ℕ) (r : Room) (s : State) → fits (run m n r s).lines r ≡ true
lines_fit m =
    run_keeps m (λ n r s y. fits y.lines r ≡ true) (λ n r s a. none_fit r)
    (λ n r s x y e f g h. fits_on x.lines y.lines r g ∙ h)

-- WHY AN ANSWER IS GIVEN, after k steps that wrote the lines ls and led to the state t.
pub data Why (m : Model) (n : ℕ) (r : Room) : Answer → ℕ → List Line → State → Type 0 where
  was_closed : {k : ℕ} {ls : List Line} {t : State} → before t ≡ is_closed → Why m n r CLOSED k ls t
  was_idle : {k : ℕ} {ls : List Line} {t : State} → before t ≡ is_idle → Why m n r IDLE k ls t
  at_limit : {k : ℕ} {ls : List Line} {t : State} → before t ≡ goes_on → k ≡ n → Why m n r LIMIT k ls t
  at_fault : {k : ℕ} {ls : List Line} {t : State} {j : ℕ} → before t ≡ goes_on → k < n → step m t ≡ fails j
      → Why m n r (FAULT j) k ls t
  no_room : {k : ℕ} {ls : List Line} {t : State} {x : Next} → before t ≡ goes_on → k < n → step m t ≡ ok x
      → fits (ls ++ x.lines) r ≡ false → Why m n r (FAULT No.JOURNAL) k ls t

pub run_why : (m : Model) (n : ℕ) (r : Room) (s : State)
    → Why m n r (run m n r s).answer (run m n r s).steps (run m n r s).lines (run m n r s).state
run_why m =
    run_has m (λ n r s y. Why m n r y.answer y.steps y.lines y.state)
    (λ n r s e. was_closed e) (λ n r s e. was_idle e) (λ r s e. at_limit e refl)
    (λ n r s k e f. at_fault e (may n) f) (λ n r s x e f g. no_room e (may n) f g) (λ n r s x y e f g h. later n r x g h)
  where
    may : (n : ℕ) → 0 < suc n
    may n = omega arith

    -- a step before changes nothing of why
    later : (n : ℕ) (r : Room) (x : Next) → fits x.lines r ≡ true → {a : Answer} {k : ℕ} {ls : List Line} {t : State}
        → Why m n (left x.lines r) a k ls t → Why m (suc n) r a (suc k) (x.lines ++ ls) t
    later n r x g (was_closed e) = was_closed e
    later n r x g (was_idle e) = was_idle e
    later n r x g (at_limit e h) = at_limit e (ap suc h)
    later n r x g {k = k} (at_fault e h f) = at_fault {k = suc k} e (omega arith) f
    later n r x g {k = k} {ls = ls} (no_room {x = y} e h f j) =
        no_room {k = suc k} e (omega arith) f
        (ap (λ l. fits l r) (append_assoc x.lines ls y.lines) ∙ fits_on x.lines (ls ++ y.lines) r g ∙ j)

-- RUNS COMPOSE. One run behind another: the answer and state of the second, the steps added, the lines appended.
abbrev pub behind : Ran → Ran → Ran
behind x y = record { answer = y.answer; steps = x.steps + y.steps; state = y.state; lines = x.lines ++ y.lines }

-- A step that is made, in front of a run.
run_first : (m : Model) (n : ℕ) (s : State) (x : Next) → before s ≡ goes_on → step m s ≡ ok x
    → run m (suc n) endless s ≡ further x (run m n endless x.state)
unfolding run
run_first m n s x e f = rw (run, e, f) refl

-- After the steps that it makes a run is the run from there.
pub made_on : (m : Model) {s t : State} {n : ℕ} {ls : List Line} → Made m s n ls t → (k : ℕ)
    → run m (n + k) endless s ≡ behind (record { answer = LIMIT; steps = n; state = t; lines = ls }) (run m k endless t)
made_on m none_made k = rw (zero-add k, zero-add) refl
made_on m {s} (one_made {x = x} {n = n} e f h) k =
    rw (suc-add n k, run_first m (n + k) s x e f, made_on m h k, append_assoc, suc-add) refl

limit_reached : {m : Model} {n : ℕ} {r : Room} {k : ℕ} {ls : List Line} {t : State} → Why m n r LIMIT k ls t → k ≡ n
limit_reached (at_limit e h) = h

-- A run of n + k steps with endless room, of which the first n answer LIMIT, is the run of k from there.
pub runs_on : (m : Model) (n k : ℕ) (s : State) → (run m n endless s).answer ≡ LIMIT
    → run m (n + k) endless s ≡ behind (run m n endless s) (run m k endless (run m n endless s).state)
runs_on m n k s e =
    let w = rw e at (run_why m n endless s) in
    ap (λ j. run m (j + k) endless s) (sym (limit_reached w)) ∙ made_on m (run_made m n endless s) k

-- An open run that is not sound is answered with 20 and not moved.
pub call_20 : (bs : List ℕ) (a : Ask) (s : State) → sound bs s ≡ false → call bs a s ≡ stopped (FAULT No.STATE) s
unfolding sound call call_in
call_20 bs a s = go (decode bs)
  where
    go : (d : Checked Model) → ◌≡◌ {A = Bool} (elim d [ refused n p ↦ false | accepted m ↦ sound_in m s ]) false
        → ◌≡◌ {A = Ran} (elim d [ refused n p ↦ stopped (FAULT No.STATE) s | accepted m ↦ call_in m a s ])
        (stopped (FAULT No.STATE) s)
    go (refused n p) e = refl
    go (accepted m) e = rw (call_in, e) refl
