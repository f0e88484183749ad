-- Why a job waits (document 02, Two): the value of each line of kind 3 is -1 or 1 to 4, and is what it says.
-- Assumes nothing.
use Prim.Native.Nat.{ℕ, zero, suc, ◌+◌, ◌≤◌}
use Rattle.std.proofs.Common.{arith, sym, ap, ◌∙◌}
use Rattle.std.proofs.Math.Path.{◌≡◌, refl, subst}
use mathlib.Core.List.{List, [], ◌∷◌, ◌++◌}
use Rattle.std.specs.Prelude.{Bool, leb, length, get_or, set, pos}
use Rattle.std.proofs.Math.Bool.{true, false}
use Rattle.std.proofs.Math.Option.{some}
use Rattle.semantics.specs.Words.{Outcome, ok, more}
use Rattle.semantics.specs.Numbers as No
use Rattle.semantics.specs.Model.{Claim, Branch, Model, Action, HOLD, PRIO, TRACE, SET, LSET, DO, PUTR, PUTB, PUTS, BECOME}
use Rattle.semantics.specs.Model.{REQ, TRY, WHILE, START, CLOSE}
use Rattle.semantics.specs.State.{State, Waiter, Event, Notice, wakes, returns_r, returns_b, Floor, empty, held_by, process}
use Rattle.semantics.specs.State.{put, at_clock, with_globals, with_free, with_bins, with_waiting, with_floor, with_events}
use Rattle.semantics.specs.State.{with_seeds, wake, join, past}
use Rattle.semantics.specs.Value.{eval}
use Rattle.semantics.specs.Claim.{Test, met, lacks, test, Offer, offers, stands_in, asks, barred, Reason}
use Rattle.semantics.specs.Claim.{is_barred, first_lacks, Choice, waits, goes, or_lacks, first_met, choice, reason_said, grant}
use Rattle.semantics.specs.Walk.{Line, Next, line, quiet, after, walk_on, walk}
use Rattle.semantics.specs.Step.{freed, free_all, ends, hold, prio, set_global, set_local, do_times, notify, putr, putb}
use Rattle.semantics.specs.Step.{become, puts, start, in_front, request, while, trace, close, act, moves, occurs, next, step}
use Rattle.semantics.specs.Run.{Room, run}
use Rattle.promises.specs.Laws.{no_way, Good, good, stopped, good_bind, good_need, good_map}
use Rattle.promises.specs.Laws.{good_out, AllOf, all_map, all_append}
use Rattle.promises.specs.Fit.{ActFit, Fit}
use Rattle.promises.specs.Parts.{fit_at, moves_has, exhausted_has}
use Rattle.promises.specs.Takes.{choice_has}
use Rattle.promises.specs.Answers.{Made, none_made, one_made, run_made}
use Rattle.promises.specs.Reasons.{test_lacks, lacks_test, lacks_within, barred_value, is_item, Explains, WaitLineOf, floored, WaitLineIn, SaysWhyItWaits}

module _ (m : Model) (s : State) (ws : List Waiter) (o : Offer) (os : List Offer) (few : length o.claim ≤ No.most_items) where
  abbrev ByReason : Reason → Type 0
  ByReason r = Explains m s ws (o ∷ os) (reason_said r)

  bars_why : barred m s ws (o ∷ os) ≡ true → ByReason is_barred
  bars_why b =
      record {
        in_range = barred_value;
        only_if_barred = λ e. b;
        if_barred = λ e. refl;
        only_if_lacking = λ n e. let z : ◌≡◌ {A = ℕ} 0 1 = cc in absurd (omega arith);
        if_lacking = λ n e l. no_way (sym e ∙ b);
      }

  lacks_why : (n : ℕ) → barred m s ws (o ∷ os) ≡ false → test s o.claim ≡ lacks n → ByReason (first_lacks n)
  lacks_why n b t =
      let l = test_lacks s 1 o.claim n t in
      let w = lacks_within s 1 o.claim n l in
      record {
        in_range = is_item w.0 (omega (arith, w.1, few));
        only_if_barred = λ e. let z : ◌≡◌ {A = ℕ} 0 1 = cc in absurd (omega arith);
        if_barred = λ e. no_way (sym b ∙ e);
        only_if_lacking = λ j e. let z : n ≡ j = cc in (b, rw (← z) l);
        if_lacking = λ j e k. let u = lacks_test s 1 o.claim j k in let z : n ≡ j = cc in ap pos z;
      }

  first_why : (r : Reason) → barred m s ws (o ∷ os) ≡ false → first_met s 0 (o ∷ os) ≡ waits r → ByReason r
  unfolding first_met
  first_why r b e = go (test s o.claim) refl e
    where
      or_waits : (n : ℕ) (c : Choice) → or_lacks n c ≡ waits r → first_lacks n ≡ r
      or_waits n (waits x) g = cc
      or_waits n (goes i x) g = let z : ◌≡◌ {A = ℕ} 0 1 = cc in absurd (omega arith)

      go : (t : Test) → test s o.claim ≡ t
          → ◌≡◌ {A = Choice} (elim t [ met ↦ goes 0 o | lacks n ↦ or_lacks n (first_met s 1 os) ]) (waits r) → ByReason r
      go met d g = let z : ◌≡◌ {A = ℕ} 0 1 = cc in absurd (omega arith)
      go (lacks n) d g = let z = or_waits n (first_met s 1 os) g in rw (← z) (lacks_why n b d)

  choice_why : (r : Reason) → choice m s ws (o ∷ os) ≡ waits r → ByReason r
  unfolding choice
  choice_why r e = go (barred m s ws (o ∷ os)) refl e
    where
      go : (b : Bool) → barred m s ws (o ∷ os) ≡ b
          → ◌≡◌ {A = Choice} (elim b [ true ↦ waits is_barred | false ↦ first_met s 0 (o ∷ os) ]) (waits r) → ByReason r
      go true d g = let z : is_barred ≡ r = cc in rw (← z) (bars_why d)
      go false d g = first_why r d g

-- A REQ or TRY that fits has a first branch, and that has 4 items at most.
module _ (m : Model) (s : State) (ws : List Waiter) where
  abbrev pub WhyWaits : Action → Type 0
  WhyWaits a = (r : Reason) → choice m s ws (offers a) ≡ waits r → Explains m s ws (offers a) (reason_said r)

  pub req_why : (c : Claim) → ActFit m (REQ c) → WhyWaits (REQ c)
  req_why c k r e = choice_why m s ws (record { claim = c; and_then = _ }) [] k.0 r e

  pub try_why : (bs : List Branch) → ActFit m (TRY bs) → WhyWaits (TRY bs)
  try_why [] k r e = let w = k.0 in absurd (omega arith)
  try_why (b ∷ bs) k r e = choice_why m s ws (record { claim = b.claim; and_then = _ }) _ k.1.0.1.0 r e

-- All lines of kind 3 are such.
abbrev WaitLines : (Line → Type 0) → List Line → Type 0
WaitLines P ls = AllOf (λ l. l.kind ≡ No.blocked → P l) ls

module _ (P : Line → Type 0) where
  abbrev InStep : Next → Type 0
  InStep n = WaitLines P n.lines

  -- One's own line, and those after it.
  own_says : {l : Line} (n : Next) → (l.kind ≡ No.blocked → P l) → InStep n → Good InStep (ok (after l n))
  own_says {l} n f h = good {a = after l n} (f, h)

  walk_says : (m : Model) (ws : List Waiter) (s : State) (ahead : List Waiter) → InStep (walk_on m s ahead ws)
  unfolding walk_on
  walk_says m [] s ahead = tt
  walk_says m (w ∷ ws) s ahead =
      choice_has InStep (choice m s ahead (asks m s w.place)) (λ r e. walk_says m ws s (ahead ++ w ∷ []))
      (λ i o e.
      ((λ k. absurd (omega arith)), walk_says m ws (wake s.clock w.place (grant w.place o s)) ahead))

  walked : (m : Model) (s : State) → InStep (walk m s)
  unfolding walk
  walked m s = walk_says m s.blocked s []

  free_says : (i : ℕ) (rs : List ℕ) (s : State) → InStep (free_all i rs s)
  unfolding free_all
  free_says i [] s = tt
  free_says i (r ∷ rs) s = ((λ k. absurd (omega arith)), free_says i rs (wake s.clock r s))

module _ (m : Model) (t : Fit m) (s : State) (p : ℕ) where
  abbrev SaysWhy : Outcome Next → Type 0
  SaysWhy o = Good (λ n. WaitLines (WaitLineOf m s p) n.lines) o

  fits : (a : Action) → stands_in m (process s p).frames ≡ some a → ActFit m a
  fits a e = fit_at m t (process s p).frames a e

  request_says : (a : Action) → stands_in m (process s p).frames ≡ some a → WhyWaits m s (in_front m s p) a
      → SaysWhy (request m s p a)
  unfolding request
  request_says a e why =
      choice_has SaysWhy (choice m s (in_front m s p) (offers a))
      (λ r g. good ((λ l. record { asked = a; stands = e; of_it = refl; explained = why r g }), tt))
      (λ i o g. good ((λ l. absurd (omega arith)), tt))

  do_says : (n b : ℕ) → SaysWhy (do_times m s p n b)
  unfolding do_times
  do_says zero b = good tt
  do_says (suc n) b = good tt

  become_says : (i : ℕ) → SaysWhy (become m s p i)
  unfolding become
  become_says i =
      let u : State = with_floor (put p (past (process s p)) s) empty in
      let w : State = with_waiting u (set u.waiting i (join u p (get_or u.waiting i []))) in
      own_says (WaitLineOf m s p) {l = line s (process s p).number No.waiting_as_slave (pos i)} (walk m w)
      (λ k. absurd (omega arith)) (walked (WaitLineOf m s p) m w)

  act_says : (a : Action) → stands_in m (process s p).frames ≡ some a → SaysWhy (act m s p a)
  unfolding act hold prio trace set_global set_local putr putb notify puts start while close
  act_says (HOLD x) e = good_bind (eval m s (process s p) x s.seeds) λ v. good_need _ _ λ a. good_need _ _ λ b. good tt
  act_says (PRIO x) e = good_bind (eval m s (process s p) x s.seeds) λ v. good tt
  act_says (TRACE x) e = good_bind (eval m s (process s p) x s.seeds) λ v. good ((λ l. absurd (omega arith)), tt)
  act_says (SET i x) e =
      good_bind (eval m s (process s p) x s.seeds) λ v.
      good (walked (WaitLineOf m s p) m
      (with_globals (with_seeds (put p (past (process s p)) s) v.seeds) (set s.globals i v.value)))
  act_says (LSET i x) e = good_bind (eval m s (process s p) x s.seeds) λ v. good tt
  act_says (DO n b) e = do_says n b
  act_says (PUTR i n) e = good_need _ _ λ a. good_need _ _ λ b. good tt
  act_says (PUTB i n) e = good_need _ _ λ a. good tt
  act_says (PUTS i n) e = good_need _ _ λ a. good (free_says _ i (freed i n (process s p).slaves) _)
  act_says (BECOME i) e = become_says i
  act_says (REQ c) e = request_says (REQ c) e (req_why m s (in_front m s p) c (fits (REQ c) e))
  act_says (TRY bs) e = request_says (TRY bs) e (try_why m s (in_front m s p) bs (fits (TRY bs) e))
  act_says (WHILE b c) e =
      choice_has SaysWhy (choice m s (in_front m s p) (offers (WHILE b c))) (λ r g. good tt)
      (λ i o g. good ((λ l. absurd (omega arith)), tt))
  act_says (START c d g) e =
      good_need _ _ λ a. good_need _ _ λ b. good_need _ _ λ f. good ((λ l. absurd (omega arith)), tt)
  act_says CLOSE e =
      own_says (WaitLineOf m s p) {l = line s (process s p).number No.closed (pos 0)} (quiet _) (λ k. absurd (omega arith)) tt

  ends_says : SaysWhy (ends m s p)
  unfolding ends
  ends_says = good_need _ _ λ a. good ((λ l. absurd (omega arith)), tt)

  moves_says : SaysWhy (moves m s p)
  moves_says =
      moves_has SaysWhy m s p (λ e. exhausted_has SaysWhy m s p stopped (λ t. good tt) ends_says (process s p).frames) act_says

-- Every line of kind 3 of a step.
module _ (m : Model) (t : Fit m) where
  abbrev SaysHere : State → Outcome Next → Type 0
  SaysHere s o = Good (λ n. WaitLines (WaitLineIn m s) n.lines) o

  -- whoever has the floor of s there
  on_floor : (s : State) (p : ℕ) → (floored s).floor ≡ held_by p → SaysHere s (moves m (floored s) p)
  on_floor s p f =
      good_map (λ n. WaitLines (WaitLineOf m (floored s) p) n.lines) (λ n. WaitLines (WaitLineIn m s) n.lines)
      (λ n h. all_map _ _ (λ l g k. record { place = p; has_floor = f; asking = g k }) n.lines h)
      (moves m (floored s) p) (moves_says m t (floored s) p)

  -- a return, and who is granted then
  return_says : (s u : State) (g k i : ℕ) → (k ≡ No.blocked → ⊥) → SaysHere s (ok (after (line u g k (pos i)) (walk m u)))
  return_says s u g k i f = own_says (WaitLineIn m s) (walk m u) (λ e. absurd (f e)) (walked (WaitLineIn m s) m u)

  -- what the first of the event list does
  module _ (s : State) (x : Event) (xs : List Event) (none : s.floor ≡ empty) (first : s.events ≡ x ∷ xs) where
    abbrev then : State
    then = with_events (at_clock s x.time) xs

    occurs_says : (n : Notice) → x.notice ≡ n → SaysHere s (occurs m then n)
    unfolding occurs
    occurs_says (wakes p) e =
        let z : floored s ≡ with_floor then (held_by p) = rw (none, first, e) refl in
        subst (λ u. SaysHere s (moves m u p)) z (on_floor s p (ap (λ (u : State). u.floor) z))
    occurs_says (returns_r i n g) e =
        return_says s (with_free then (more then.free i n)) g No.resource_returned i (λ k. omega arith)
    occurs_says (returns_b i n g) e =
        good_need No.BIN (leb (get_or then.bins i 0 + n) No.full_bin) λ b.
        return_says s (with_bins then (more then.bins i n)) g No.bin_returned i (λ k. omega arith)

  step_says : (s : State) → SaysHere s (step m s)
  unfolding step next
  step_says s = go s.floor s.events refl refl
    where
      go : (f : Floor) (es : List Event) → s.floor ≡ f → s.events ≡ es
          → SaysHere s (elim f [ held_by p ↦ moves m s p | empty ↦ next m s es ])
      go (held_by p) es e g =
          let z : floored s ≡ s = rw e refl in
          subst (λ u. SaysHere s (moves m u p)) z (on_floor s p (ap (λ (u : State). u.floor) z ∙ e))
      go empty [] e g = stopped
      go empty (x ∷ xs) e g = occurs_says s x xs e g x.notice refl

module _ (m : Model) (t : Fit m) where
  made_says : {s u : State} {n : ℕ} {ls : List Line} → Made m s n ls u → AllOf (SaysWhyItWaits m s) ls
  made_says none_made = tt
  made_says {s} (one_made {x = x} {ls = ls} e f h) =
      all_append (SaysWhyItWaits m s) x.lines ls
      (all_map _ _ (λ l g k. record { steps = 0; lines = []; there = s; comes_there = none_made; waiting = g k }) x.lines
      (good_out (λ n. WaitLines (WaitLineIn m s) n.lines) (step m s) x f (step_says m t s)))
      (all_map (SaysWhyItWaits m x.state) _ (λ l g k.
      let w = g k in
      record {
        steps = suc w.steps;
        lines = x.lines ++ w.lines;
        there = w.there;
        comes_there = one_made e f w.comes_there;
        waiting = w.waiting;
      }) ls (made_says h))

  pub run_says_why : (n : ℕ) (r : Room) (s : State) → AllOf (SaysWhyItWaits m s) (run m n r s).lines
  run_says_why n r s = made_says (run_made m n r s)
