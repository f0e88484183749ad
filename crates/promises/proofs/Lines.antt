-- A step out of a sound state writes at most 65 lines: one of its own, and one for each process that it frees or grants.
-- Assumes nothing.
use Prim.Native.Nat.{ℕ, zero, suc, ◌≤◌, ◌<◌}
use Rattle.std.proofs.Common.{arith, le_of_lt}
use Rattle.std.specs.Prelude.{◌≡◌, refl, Bool, true, false, eqb}
use Rattle.std.proofs.Math.Path.{ap}
use mathlib.Core.List.{List, [], ◌∷◌, ◌++◌}
use Rattle.std.proofs.Math.ListN.{length}
use Rattle.semantics.specs.Words.{Outcome, ok}
use Rattle.semantics.specs.Numbers as No
use Rattle.semantics.specs.Model.{Model, Action, HOLD, PRIO, TRACE, SET, LSET, DO, PUTR, PUTB, PUTS, BECOME, REQ, TRY, WHILE}
use Rattle.semantics.specs.Model.{START, CLOSE}
use Rattle.semantics.specs.State.{State, Process, Slave, Waiter, Event, Notice, wakes, returns_r, returns_b, Floor}
use Rattle.semantics.specs.State.{empty, held_by, nobody, process, with_floor, with_events, at_clock, wake}
use Rattle.semantics.specs.Value.{eval}
use Rattle.semantics.specs.Claim.{offers, Choice, asks, choice, grant}
use Rattle.semantics.specs.Walk.{Next, walk_on, walk}
use Rattle.semantics.specs.Step as Step
use Rattle.semantics.specs.Step.{freed, free_all, ends, hold, prio, set_global, set_local, do_times, notify, putr, putb}
use Rattle.semantics.specs.Step.{become, puts, start, request, while, trace, close, act, moves, occurs, next, step}
use Rattle.promises.specs.Laws.{Good, good, stopped, good_bind, good_need, good_out, AllOf, all_get, over}
use Rattle.promises.specs.Sound.{Sound}
use Rattle.promises.specs.Parts.{moves_has, exhausted_has}
use Rattle.promises.specs.Takes.{choice_has}
use Rattle.promises.specs.Capacity.{lists_fit}

-- A line for each that the walk grants,
walk_lines : (m : Model) (ws : List Waiter) (s : State) (ahead : List Waiter) → length (walk_on m s ahead ws).lines ≤ length ws
unfolding walk_on
walk_lines m [] s ahead = omega arith
walk_lines m (w ∷ ws) s ahead =
    choice_has (λ (n : Next). length n.lines ≤ suc (length ws)) (choice m s ahead (asks m s w.place))
    (λ r e. let a = walk_lines m ws s (ahead ++ w ∷ []) in omega arith)
    (λ i o e. let a = walk_lines m ws (wake s.clock w.place (grant w.place o s)) ahead in omega arith)

-- and for each that a PUTS frees.
free_lines : (i : ℕ) (rs : List ℕ) (s : State) → length (free_all i rs s).lines ≡ length rs
unfolding free_all
free_lines i [] s = omega arith
free_lines i (r ∷ rs) s = let a = free_lines i rs (wake s.clock r s) in omega arith

freed_few : (i n : ℕ) (xs : List Slave) → length (freed i n xs) ≤ length xs
unfolding freed
freed_few i zero xs = omega arith
freed_few i (suc n) [] = omega arith
freed_few i (suc n) (x ∷ xs) = go (eqb x.of i) (freed_few i n xs) (freed_few i (suc n) xs)
  where
    go : (b : Bool) → length (freed i n xs) ≤ length xs → length (freed i (suc n) xs) ≤ length xs
        → length {A = ℕ} (elim b [ true ↦ x.place ∷ freed i n xs | false ↦ freed i (suc n) xs ]) ≤ suc (length xs)
    go true f g = omega arith
    go false f g = omega arith

-- No element is longer than all together.
pub longest : {A : Type 0} (f : A → ℕ) (most : ℕ) (xs : List A) → over f xs ≤ most → AllOf (λ x. f x ≤ most) xs
longest f most [] h = tt
longest f most (x ∷ xs) h = (omega arith, longest f most xs (omega arith))

none_written : 0 ≤ 65
none_written = omega arith

one_written : 1 ≤ 65
one_written = omega arith

abbrev FewLines : Outcome Next → Type 0
FewLines o = Good (λ n. length n.lines ≤ 65) o

-- As many as can wait or be owned.
record Listed (s : State) : Type 0 where
  blocked_few : length s.blocked ≤ No.places
  slaves_few : (p : ℕ) → length (process s p).slaves ≤ No.places

module _ (m : Model) (s : State) (h : Listed s) (p : ℕ) where
  abbrev q : Process
  q = process s p

  walked : (t : State) → t.blocked ≡ s.blocked → length (walk m t).lines < 65
  unfolding walk
  walked t e = let a = walk_lines m t.blocked t [] in omega (arith, a, ap length e, h.blocked_few)

  frees : (i n : ℕ) (t : State) → length (free_all i (freed i n q.slaves) t).lines ≤ 65
  frees i n t =
      omega (arith, free_lines i (freed i n q.slaves) t, freed_few i n q.slaves, h.slaves_few p)

  do_lines : (n b : ℕ) → FewLines (do_times m s p n b)
  unfolding do_times
  do_lines zero b = good none_written
  do_lines (suc n) b = good none_written

  abbrev chosen : Action → Choice
  chosen a = choice m s (Step.in_front m s p) (offers a)

  act_lines : (a : Action) → FewLines (act m s p a)
  unfolding act hold prio trace set_global set_local putr putb notify puts become start request while close
  act_lines (HOLD x) = good_bind (eval m s q x s.seeds) λ v. good_need _ _ λ a. good_need _ _ λ b. good (omega arith)
  act_lines (PRIO x) = good_bind (eval m s q x s.seeds) λ v. good (omega arith)
  act_lines (TRACE x) = good_bind (eval m s q x s.seeds) λ v. good (omega arith)
  act_lines (SET i x) = good_bind (eval m s q x s.seeds) λ v. good (le_of_lt (walked _ refl))
  act_lines (LSET i x) = good_bind (eval m s q x s.seeds) λ v. good (omega arith)
  act_lines (DO n b) = do_lines n b
  act_lines (PUTR i n) = good_need _ _ λ a. good_need _ _ λ b. good (omega arith)
  act_lines (PUTB i n) = good_need _ _ λ a. good (omega arith)
  act_lines (PUTS i n) = good_need _ _ λ a. good (frees i n _)
  act_lines (BECOME i) = good (walked _ refl)
  act_lines (REQ c) = choice_has FewLines (chosen (REQ c)) (λ r g. good (omega arith)) (λ i o g. good (omega arith))
  act_lines (TRY bs) = choice_has FewLines (chosen (TRY bs)) (λ r g. good (omega arith)) (λ i o g. good (omega arith))
  act_lines (WHILE b c) = choice_has FewLines (chosen (WHILE b c)) (λ r g. good (omega arith)) (λ i o g. good (omega arith))
  act_lines (START c t g) = good_need _ _ λ a. good_need _ _ λ b. good_need _ _ λ d. good (omega arith)
  act_lines CLOSE = good one_written

  ends_lines : FewLines (ends m s p)
  unfolding ends
  ends_lines = good_need _ _ λ a. good (omega arith)

  moves_lines : FewLines (moves m s p)
  moves_lines =
      moves_has FewLines m s p (λ e. exhausted_has FewLines m s p stopped (λ t. good none_written) ends_lines q.frames)
      (λ a e. act_lines a)

module _ (m : Model) where
  occurs_lines : (s : State) → Listed s → (n : Notice) → FewLines (occurs m s n)
  unfolding occurs
  occurs_lines s h (wakes p) =
      moves_lines m (with_floor s (held_by p)) (record { blocked_few = h.blocked_few; slaves_few = h.slaves_few }) p
  occurs_lines s h (returns_r i n g) = good (walked m s h 0 _ refl)
  occurs_lines s h (returns_b i n g) = good_need _ _ λ a. good (walked m s h 0 _ refl)

  few_lines : (s : State) → Listed s → FewLines (step m s)
  unfolding step next
  few_lines s h = go s.floor s.events
    where
      go : (f : Floor) (es : List Event) → FewLines (elim f [ held_by p ↦ moves m s p | empty ↦ next m s es ])
      go (held_by p) es = moves_lines m s h p
      go empty [] = stopped
      go empty (x ∷ xs) =
          occurs_lines (with_events (at_clock s x.time) xs)
          (record { blocked_few = h.blocked_few; slaves_few = h.slaves_few }) x.notice

  pub step_lines : (s : State) → Sound m s → (n : Next) → step m s ≡ ok n → length n.lines ≤ 65
  step_lines s h n e =
      let fits = lists_fit m s h in
      let each = longest (λ q. length q.slaves) No.places s.processes fits.slaves_fit in
      let few : Listed s = record {
        blocked_few = fits.blocked_fit;
        slaves_few = λ p. all_get (λ q. length q.slaves ≤ No.places) s.processes p nobody each (omega arith);
      } in
      good_out (λ n. length n.lines ≤ 65) (step m s) n e (few_lines s few)
