-- The lines that a sound run writes are writable: their times, process numbers, kinds and values fit into a line's 16 bytes.
-- Assumes nothing.
use Prim.Native.Nat.{ℕ, zero, suc, ◌+◌, ◌≤◌, ◌<◌}
use Rattle.std.proofs.Common.{arith}
use Rattle.std.specs.Prelude.{◌≡◌, Bool, true, false, ◌&&◌, length, get_or, set, ℤ, pos}
use Rattle.std.proofs.Math.Path.{refl}
use mathlib.Core.List.{List, [], ◌∷◌, ◌++◌}
use Rattle.std.proofs.Math.Dec.{ltb}
use borrow.Author.Tests.{ltb-true}
use Rattle.std.proofs.lemmas.List.{length-map}
use Rattle.semantics.specs.Words.{Outcome, ok, more}
use Rattle.semantics.specs.Numbers as No
use Rattle.semantics.specs.Model.{resource, bin, sync, Item, get, condition, Claim, Share, Model, Action, HOLD, PRIO, TRACE}
use Rattle.semantics.specs.Model.{SET, LSET, DO, PUTR, PUTB, PUTS, BECOME, REQ, TRY, WHILE, START, CLOSE, Expr}
use Rattle.semantics.specs.State.{State, Process, Waiter, Event, Notice, wakes, returns_r, returns_b, Floor, empty, held_by}
use Rattle.semantics.specs.State.{nobody, process, put, living, at_clock, with_globals, with_free, with_bins, with_waiting}
use Rattle.semantics.specs.State.{with_floor, with_events, with_seeds, with_slaves, wake, join, past, into}
use Rattle.semantics.specs.Value.{Valued, eval}
use Rattle.semantics.specs.Claim.{Test, met, lacks, test, take_item, take_all, Then, pass, enter_block, Offer, offers, barred, asks}
use Rattle.semantics.specs.Claim.{is_barred, Choice, waits, goes, or_lacks, first_met, choice, reason_said, follow, grant}
use Rattle.semantics.specs.Walk.{Line, Next, line, quiet, after, walk_on, walk}
use Rattle.semantics.specs.Step as Step
use Rattle.semantics.specs.Step.{freed, stay, free_all, ends, hold, prio, set_global, set_local, do_times, notify, putr}
use Rattle.semantics.specs.Step.{putb, become, puts, start, request, while, trace, close, act, moves, occurs, next, step}
use Rattle.semantics.specs.Run.{Room, run}
use Rattle.promises.specs.Laws.{and-true, Good, good, stopped, good_bind, good_then, good_need, good_out, AllOf, all_map}
use Rattle.promises.specs.Laws.{all_set, all_get, all_append}
use Rattle.promises.specs.Fit.{I32, ActFit, Fit}
use Rattle.promises.specs.Sound.{ProcOk, ReturnOk, NoticeOk, EventOk, SeedsOk, Sound}
use Rattle.promises.specs.Keep.{free_or_fine}
use Rattle.promises.specs.Parts.{ValuedOk, fit_at, moves_has, exhausted_has}
use Rattle.promises.proofs.Parts.{eval_good}
use Rattle.promises.specs.Takes.{still_grant, not_goes, or_goes, asks_at, choice_has}
use Rattle.promises.proofs.Stays.{step_ok}
use Rattle.promises.specs.Answers.{run_keeps}
use Rattle.promises.specs.Reasons.{WaitValue, barred_value, is_item}
use Rattle.promises.proofs.Reasons.{WhyWaits, req_why, try_why}
use Rattle.plan_text.specs.Tells.{Writable}

abbrev LinesFit : Next → Type 0
LinesFit n = AllOf Writable n.lines

abbrev Writes : Outcome Next → Type 0
Writes o = Good LinesFit o

-- One's own line, and those after it.
own_line : {l : Line} (n : Next) → Writable l → LinesFit n → Writes (ok (after l n))
own_line {l} n h k = good {a = after l n} (h, k)

one_line : {l : Line} {s : State} → Writable l → Writes (ok (after l (quiet s)))
one_line {s = s} h = own_line (quiet s) h tt

-- A line of a kind that there is, and a small number as its value.
writable : {t p k : ℕ} {v : ℤ} → t ≤ No.latest → p ≤ No.last_number → k ≤ No.closed → I32 v
    → Writable (record { time = t; process = p; kind = k; value = v })
writable a b c d =
    record { time_fits = omega arith; process_fits = omega arith; kind_fits = omega arith; value_fits = d }

small : (i : ℕ) → i ≤ No.places → I32 (pos i)
small i h = omega arith

-- PROCESS NUMBERS stay as they are where a process changes, and where one takes what is offered.
abbrev Numbered : List Process → Type 0
Numbered ps = AllOf (λ q. q.number ≤ No.last_number) ps

number_at : (ps : List Process) (p : ℕ) → Numbered ps → (get_or ps p nobody).number ≤ No.last_number
number_at ps p h = all_get (λ q. q.number ≤ No.last_number) ps p nobody h (omega arith)

numbered_put : (ps : List Process) (p : ℕ) (r : Process) → r.number ≡ (get_or ps p nobody).number → Numbered ps
    → Numbered (set ps p r)
numbered_put ps p r e h =
    all_set (λ q. q.number ≤ No.last_number) ps p r h (let a = number_at ps p h in omega arith)

module _ (p : ℕ) where
  item_numbered : (i : Item) (s : State) → Numbered s.processes → Numbered (take_item p i s).processes
  unfolding take_item
  item_numbered (get resource i n) s h = numbered_put s.processes p _ refl h
  item_numbered (get bin i n) s h = h
  item_numbered (get sync i n) s h = numbered_put s.processes p _ refl h
  item_numbered (condition i r v) s h = h

  all_numbered : (c : Claim) (s : State) → Numbered s.processes → Numbered (take_all p c s).processes
  unfolding take_all
  all_numbered [] s h = h
  all_numbered (i ∷ is) s h = all_numbered is (take_item p i s) (item_numbered i s h)

  follow_number : (t : Then) (q : Process) → (follow t q).number ≡ q.number
  unfolding past into
  follow_number pass q = refl
  follow_number (enter_block b) q = refl

  grant_numbered : (o : Offer) (s : State) → Numbered s.processes → Numbered (grant p o s).processes
  unfolding grant
  grant_numbered o s h =
      numbered_put (take_all p o.claim s).processes p _ (follow_number o.and_then _) (all_numbered o.claim s h)

-- A BRANCH that is taken is one of those offered, which are 4 at most.
first_in : (s : State) (i : ℕ) (o : Offer) (k : ℕ) (os : List Offer) → first_met s k os ≡ goes i o → i < k + length os
unfolding first_met
first_in s i o k [] e = not_goes e
first_in s i o k (x ∷ xs) e = go (test s x.claim) (λ f. first_in s i o (suc k) xs f) e
  where
    go : (t : Test) → (first_met s (suc k) xs ≡ goes i o → i < suc k + length xs)
        → ◌≡◌ {A = Choice} (elim t [ met ↦ goes k x | lacks n ↦ or_lacks n (first_met s (suc k) xs) ]) (goes i o)
        → i < k + suc (length xs)
    go met f g = let z : k ≡ i = cc in omega arith
    go (lacks n) f g = let a = f (or_goes n (first_met s (suc k) xs) g) in omega arith

choice_in : (m : Model) (s : State) (ws : List Waiter) (os : List Offer) (i : ℕ) (o : Offer) → choice m s ws os ≡ goes i o
    → i < length os
unfolding choice
choice_in m s ws os i o e = go (barred m s ws os) e
  where
    go : (b : Bool) → ◌≡◌ {A = Choice} (elim b [ true ↦ waits is_barred | false ↦ first_met s 0 os ]) (goes i o) → i < length os
    go true g = not_goes g
    go false g = let a = first_in s i o 0 os g in omega arith

offers_few : (m : Model) (a : Action) → ActFit m a → length (offers a) ≤ 4
offers_few m (HOLD e) h = omega arith
offers_few m (PRIO e) h = omega arith
offers_few m (TRACE e) h = omega arith
offers_few m (SET i e) h = omega arith
offers_few m (LSET i e) h = omega arith
offers_few m (DO n k) h = omega arith
offers_few m (PUTR i n) h = omega arith
offers_few m (PUTB i n) h = omega arith
offers_few m (PUTS i n) h = omega arith
offers_few m (BECOME i) h = omega arith
offers_few m (REQ c) h = omega arith
offers_few m (TRY bs) h = let a = h.0 in let b : length (offers (TRY bs)) ≡ length bs = length-map bs _ in omega arith
offers_few m (WHILE k c) h = omega arith
offers_few m (START c t g) h = omega arith
offers_few m CLOSE h = omega arith

-- THE WALK, and the slaves that a PUTS frees.
module _ (m : Model) (t : Fit m) where
  branch_small : (s : State) (ws : List Waiter) (a : Action) → ActFit m a → (i : ℕ) (o : Offer)
      → choice m s ws (offers a) ≡ goes i o → I32 (pos i)
  branch_small s ws a k i o e =
      let b = choice_in m s ws (offers a) i o e in let c = offers_few m a k in small i (omega arith)

  walk_on_writes : (ws : List Waiter) (s : State) (ahead : List Waiter) → s.clock ≤ No.latest → Numbered s.processes
      → AllOf Writable (walk_on m s ahead ws).lines
  unfolding walk_on wake
  walk_on_writes [] s ahead c h = tt
  walk_on_writes (w ∷ ws) s ahead c h =
      let p : ℕ = w.place in
      choice_has LinesFit (choice m s ahead (asks m s p))
      (λ r e. walk_on_writes ws s (ahead ++ w ∷ []) c h)
      (λ i o e.
      let small_i = asks_at m s ahead p i o (I32 (pos i))
      (λ a f g. branch_small s ahead a (fit_at m t (process s p).frames a f) i o g) e in
      let d = (still_grant p o s).same_clock in (
        writable c (number_at s.processes p h) (omega arith) small_i,
        walk_on_writes ws (wake s.clock p (grant p o s)) ahead (omega arith) (grant_numbered p o s h),
      ))

  walk_writes : (s : State) → s.clock ≤ No.latest → Numbered s.processes → AllOf Writable (walk m s).lines
  unfolding walk
  walk_writes s c h = walk_on_writes s.blocked s [] c h

free_writes : (i : ℕ) → i ≤ No.places → (rs : List ℕ) (s : State) → s.clock ≤ No.latest → Numbered s.processes
    → AllOf Writable (free_all i rs s).lines
unfolding free_all wake
free_writes i l [] s c h = tt
free_writes i l (r ∷ rs) s c h =
    (writable c (number_at s.processes r h) (omega arith) (small i l), free_writes i l rs (wake s.clock r s) c h)

-- THE PARTS OF A STATE that lines are made of: the clock, the globals, the processes and the seeds. In one that is sound they
-- are so small, also when the clock goes on.
record Small (m : Model) (c : ℕ) (gs : List ℤ) (ps : List Process) (sd : List ℕ) : Type 0 where
  clock_small : c ≤ No.latest
  globals_small : AllOf I32 gs
  numbers_small : Numbered ps
  locals_small : AllOf (λ q. AllOf I32 q.locals) ps
  seeds_small : SeedsOk m sd

abbrev SmallIn : Model → State → Type 0
SmallIn m s = Small m s.clock s.globals s.processes s.seeds

sound_small : (m : Model) (s : State) → Sound m s → (c : ℕ) → c ≤ No.latest
    → Small m c s.globals s.processes s.seeds
sound_small m s h c l =
    record {
      clock_small = l;
      globals_small = h.globals_ok;
      numbers_small = all_map (ProcOk m s.last) _ number_small s.processes h.procs_ok;
      locals_small = all_map (ProcOk m s.last) _ local_small s.processes h.procs_ok;
      seeds_small = h.seeds_ok;
    }
  where
    number_small : (q : Process) → ProcOk m s.last q → q.number ≤ No.last_number
    number_small q o =
        free_or_fine (q.number ≤ No.last_number) o (λ e v. let a = v.no_number in omega arith)
        (λ e f. let a = f.is_given in let b = h.last_ok in omega arith)

    local_small : (q : Process) → ProcOk m s.last q → AllOf I32 q.locals
    local_small q o = free_or_fine (AllOf I32 q.locals) o (λ e v. rw v.no_locals tt) (λ e f. f.locals_ok)

-- WHAT THE PROCESS q in place p, which has the floor, writes.
module _ (m : Model) (t : Fit m) (s : State) (h : SmallIn m s) (p : ℕ) where
  abbrev q : Process
  q = process s p

  abbrev worth : Expr → Outcome Valued
  worth x = eval m s q x s.seeds

  own : (k : ℕ) (v : ℤ) → k ≤ No.closed → I32 v → Writable (line s q.number k v)
  own k v a b = writable h.clock_small (number_at s.processes p h.numbers_small) a b

  put_numbered : (r : Process) → r.number ≡ q.number → Numbered (set s.processes p r)
  put_numbered r e = numbered_put s.processes p r e h.numbers_small

  past_numbered : Numbered (set s.processes p (past q))
  unfolding past
  past_numbered = put_numbered (past q) refl

  do_writes : (n b : ℕ) → Writes (do_times m s p n b)
  unfolding do_times
  do_writes zero b = good tt
  do_writes (suc n) b = good tt

  puts_writes : (i n : ℕ) → i < m.syncs → Writes (puts m s p i n)
  unfolding puts past
  puts_writes i n k =
      good_need _ _ λ a.
      let f = t.few_syncs in
      good
      (free_writes i (omega arith) (freed i n q.slaves) _ h.clock_small
      (put_numbered (past (with_slaves q (stay i n q.slaves))) refl))

  abbrev chosen : Action → Choice
  chosen a = choice m s (Step.in_front m s p) (offers a)

  granted : (a : Action) → ActFit m a → (i : ℕ) (o : Offer) → chosen a ≡ goes i o
      → Writable (line s q.number No.granted (pos i))
  granted a k i o g = own No.granted (pos i) (omega arith) (branch_small m t s (Step.in_front m s p) a k i o g)

  -- why it waits is a small number
  reason_small : {v : ℤ} → WaitValue v → I32 v
  reason_small barred_value = omega arith
  reason_small (is_item a b) = omega arith

  request_writes : (a : Action) → ActFit m a → WhyWaits m s (Step.in_front m s p) a → Writes (request m s p a)
  unfolding request
  request_writes a k why =
      choice_has Writes (chosen a)
      (λ r g. one_line (own No.blocked (reason_said r) (omega arith) (reason_small (why r g).in_range)))
      (λ i o g. one_line (granted a k i o g))

  while_writes : (a : Action) → ActFit m a → Writes (while m s p a)
  unfolding while
  while_writes a k = choice_has Writes (chosen a) (λ r g. good tt) (λ i o g. one_line (granted a k i o g))

  start_writes : (c d : ℕ) (hs : List Share) → c < length m.classes → Writes (start m s p c d hs)
  unfolding start
  start_writes c d hs k =
      good_need _ _ λ a. good_need _ _ λ b. good_need No.FULL (ltb (living s) No.places && ltb s.last No.last_number) λ e.
      let l = ltb-true s.last No.last_number (and-true (ltb (living s) No.places) _ e).1 in
      let f = t.few_classes in
      one_line (writable h.clock_small (omega arith) (omega arith) (small c (omega arith)))

  become_writes : (i : ℕ) → i < m.syncs → Writes (become m s p i)
  unfolding become
  become_writes i k =
      let f = t.few_syncs in
      let u : State = with_floor (put p (past q) s) empty in
      let w : State = with_waiting u (set u.waiting i (join u p (get_or u.waiting i []))) in
      own_line (walk m w) (own No.waiting_as_slave (pos i) (omega arith) (small i (omega arith)))
      (walk_writes m t w h.clock_small past_numbered)

  act_writes : (a : Action) → ActFit m a → Writes (act m s p a)
  unfolding act hold prio trace set_global set_local putr putb notify close
  act_writes (HOLD x) k = good_bind (worth x) λ v. good_need _ _ λ a. good_need _ _ λ b. good tt
  act_writes (PRIO x) k = good_bind (worth x) λ v. good tt
  act_writes (TRACE x) k =
      let locals = all_get (λ q. AllOf I32 q.locals) s.processes p nobody h.locals_small tt in
      good_then (ValuedOk m) LinesFit (worth x)
      (eval_good m t s q h.globals_small locals h.clock_small x k s.seeds h.seeds_small) λ v i.
      one_line (own No.traced v.value (omega arith) i.value_ok)
  act_writes (SET i x) k =
      good_bind (worth x) λ v.
      good (walk_writes m t (with_globals (with_seeds (put p (past q) s) v.seeds) (set s.globals i v.value))
      h.clock_small past_numbered)
  act_writes (LSET i x) k = good_bind (worth x) λ v. good tt
  act_writes (DO n b) k = do_writes n b
  act_writes (PUTR i n) k = good_need _ _ λ a. good_need _ _ λ b. good tt
  act_writes (PUTB i n) k = good_need _ _ λ a. good tt
  act_writes (PUTS i n) k = puts_writes i n k.0
  act_writes (BECOME i) k = become_writes i k
  act_writes (REQ c) k = request_writes (REQ c) k (req_why m s (Step.in_front m s p) c k)
  act_writes (TRY bs) k = request_writes (TRY bs) k (try_why m s (Step.in_front m s p) bs k)
  act_writes (WHILE b c) k = while_writes (WHILE b c) k
  act_writes (START c d hs) k = start_writes c d hs k.0
  act_writes CLOSE k = one_line (own No.closed (pos 0) (omega arith) (omega arith))

  ends_writes : Writes (ends m s p)
  unfolding ends
  ends_writes = good_need _ _ λ a. one_line (own No.ended (pos 0) (omega arith) (omega arith))

  moves_writes : Writes (moves m s p)
  moves_writes =
      moves_has Writes m s p (λ e. exhausted_has Writes m s p stopped (λ u. good tt) ends_writes q.frames)
      (λ a e. act_writes a (fit_at m t q.frames a e))

-- ONE STEP, and a run.
module _ (m : Model) (t : Fit m) where
  -- a return, and who is granted then
  return_writes : (s : State) → SmallIn m s → s.last ≤ No.last_number → (known k : ℕ) → known ≤ No.most_things → k ≤ No.closed
      → {c : ℤ} {i n g : ℕ} → ReturnOk known s.last c i n g → Writes (ok (after (line s g k (pos i)) (walk m s)))
  return_writes s h l known k f e {i = i} {g = g} r =
      let a = r.giver_ok in
      let b = r.is_known in
      own_line (walk m s) (writable h.clock_small (omega arith) e (small i (omega arith)))
      (walk_writes m t s h.clock_small h.numbers_small)

  occurs_writes : (s : State) → SmallIn m s → s.last ≤ No.last_number → (x : Notice) (c : ℤ)
      → NoticeOk m s.last s.processes c x → Writes (occurs m s x)
  unfolding occurs
  occurs_writes s h l (wakes p) c k = moves_writes m t (with_floor s (held_by p)) h p
  occurs_writes s h l (returns_r i n g) c k =
      return_writes (with_free s (more s.free i n)) h l (length m.totals) No.resource_returned t.few_totals
      (omega arith) k
  occurs_writes s h l (returns_b i n g) c k =
      good_need _ _ λ e.
      return_writes (with_bins s (more s.bins i n)) h l (length m.amounts) No.bin_returned t.few_amounts (omega arith) k

  step_writes : (s : State) → Sound m s → Writes (step m s)
  unfolding step next
  step_writes s h = go s.floor s.events h.events_ok
    where
      go : (f : Floor) (es : List Event) → AllOf (EventOk m s.clock s.last s.processes) es
          → Writes (elim f [ held_by p ↦ moves m s p | empty ↦ next m s es ])
      go (held_by p) es a = moves_writes m t s (sound_small m s h s.clock h.clock_ok) p
      go empty [] a = stopped
      go empty (x ∷ xs) a =
          occurs_writes (with_events (at_clock s x.time) xs) (sound_small m s h x.time a.0.not_late) h.last_ok
          x.notice x.priority a.0.tells

  pub step_writable : (s : State) → Sound m s → (x : Next) → step m s ≡ ok x → AllOf Writable x.lines
  step_writable s h x e = good_out LinesFit (step m s) x e (step_writes s h)

  pub run_writable : (n : ℕ) (r : Room) (s : State) → Sound m s → AllOf Writable (run m n r s).lines
  run_writable =
      run_keeps m (λ n r s y. Sound m s → AllOf Writable y.lines) (λ n r s a h. tt)
      (λ n r s x y b e f ih h.
      all_append Writable x.lines y.lines (step_writable s h x e) (ih (step_ok m t s h x e)))
