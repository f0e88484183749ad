-- A step from a sound state leaves a sound state.
-- Assumes nothing.
use Prim.Native.Nat.{ℕ, zero, suc, ◌+◌, ◌≤◌, ◌<◌}
use native.Mathlib.Omega.{arith}
use Rattle.std.specs.Prelude.{◌≡◌, ◌&&◌, get_or, set, if◌then◌else◌}
use Rattle.std.proofs.Math.Path.{refl, ap}
use Rattle.std.proofs.Common.{sym, subst, ◌∙◌, length-set}
use mathlib.Core.List.{List, [], ◌∷◌, map}
use Rattle.std.proofs.Math.Bool.{true}
use Rattle.std.proofs.Math.Option.{some}
use Rattle.std.proofs.Math.Dec.{eqb, leb, ltb}
use borrow.Author.Tests.{ltb-true, leb-true, le-leb, eqb-true, eq-eqb}
use Rattle.std.proofs.Math.ListN.{length, length-map}
use Rattle.std.proofs.Math.IntN.{ℤ, nat_abs}
use Rattle.std.specs.Int.Signed.{le_z, non_neg}
use Rattle.semantics.specs.Words.{Outcome, ok, ◌>>=◌, all, keep, is_empty, more, fewer, within}
use Rattle.semantics.specs.Numbers as No
use Rattle.semantics.specs.Numbers.{lowest, of_returns}
use Rattle.semantics.specs.Model.{Expr, Share, Model, Action, HOLD, PRIO, TRACE, SET, LSET, DO, PUTR, PUTB, PUTS, BECOME, REQ}
use Rattle.semantics.specs.Model.{TRY, WHILE, START, CLOSE}
use Rattle.semantics.specs.State.{State, Process, Frame, Waiter, Event, Notice, wakes, returns_r, returns_b, Floor, empty, held_by}
use Rattle.semantics.specs.State.{nobody, process, put, free_place, living, newcomer, at_clock, with_last, with_globals}
use Rattle.semantics.specs.State.{with_free, with_bins, with_waiting, with_floor, with_events, with_seeds, with_priority}
use Rattle.semantics.specs.State.{with_locals, with_held, with_slaves, with_frames, wake, join, past, into, begin}
use Rattle.semantics.specs.Value.{Valued, eval}
use Rattle.semantics.specs.Claim.{Offer, offers, stands_in, goes, choice, grant}
use Rattle.semantics.specs.Walk.{Next, quiet}
use Rattle.semantics.specs.Step.{is_return, handed, kept, freed, stay, free_all, leave, ends, exhausted, hold}
use Rattle.semantics.specs.Step.{prio, set_global, set_local, do_times, notify, putr, putb, become, puts, start, in_front, request}
use Rattle.semantics.specs.Step.{while, trace, close, act, moves, occurs, next, step}
use Rattle.semantics.specs.Sound.{chained, asking, asks_at}
use Rattle.promises.specs.Laws.{and-true, true-and, if_has, Good, good, stopped, good_then, good_need, good_out, all_map}
use Rattle.promises.specs.Laws.{all_get, all_hold, empty_is, over, over_still, once, once_self, more_at, less_at}
use Rattle.promises.specs.Fit.{ExprFit, ShareFit, ActFit, Fit}
use Rattle.promises.specs.Sound.{al, on_floor, noticed, slaved, gives, owes, Fine, NoticeOk, Held, Sound}
use Rattle.promises.specs.Keep.{living_in, living_are, some_free}
use Rattle.promises.specs.Moves.{hand_fine, recount, remove, create, is_entered, frees, bin_is, seeds_are, global_is}
use Rattle.promises.specs.Moves.{first_event_out, joins, blocks}
use Rattle.promises.specs.Parts.{ValuedOk, priority_ok, fit_at, moves_has, onward-al, chain_into, chain_parts}
use Rattle.promises.proofs.Parts.{eval_good}
use Rattle.promises.specs.Parts.{chain_again, leave_chain, leave-al, fine_held, fine_slaves, fine_local, fine_priority}
use Rattle.promises.specs.Parts.{new_fine, zeros_at, hand_over, handed-length, handed_at, kept_length, kept_at, freed-stay}
use Rattle.promises.specs.Parts.{stay_all, returning_are}
use Rattle.promises.specs.Takes.{still_grant, goes_past, goes_into, choice_has, goes_held, wakes_up, walk_sound}

abbrev Leads : Model → Outcome Next → Type 0
Leads m o = Good (λ n. Sound m n.state) o

-- A NEW PROCESS begins, while fewer live than there are places.
pub begins :
    (m : Model) (s : State) {l : List Waiter} {z y : ℕ → ℕ} → Held m s l z y → (c t : ℕ) (hl : List ℕ) → s.last < No.last_number
    → living_in s.processes < No.places → c < length m.classes → length hl ≡ length m.totals → s.clock ≤ t
    → t ≤ No.latest → ((j : ℕ) → get_or hl j 0 ≡ y j) → Held m (begin m c t hl s) l z (λ j. 0)
unfolding begin
begins m s {l} {z} h c t hl more room i e a b ys =
    let p : ℕ = free_place s in
    let r : Process = newcomer m (s.last + 1) c hl in
    let u : State = put p r (with_last s (s.last + 1)) in
    let free = some_free s.processes (let d = h.places_64 in omega arith) in
    let g : Held m u l (λ k. once k p + z k) (λ j. 0) =
    create h p r more free (new_fine m s.last c hl i e) refl refl refl (λ k. refl) (λ j. let d = ys j in omega arith) in
    wakes_up m u g t p a b (λ k. refl)

-- SLAVES in hand enter the event list.
free_all_sound :
    (m : Model) (i : ℕ) (rs : List ℕ) (s : State)
    → Held m s s.blocked (λ k. over (once k) rs + on_floor k s.floor) (λ j. 0) → Sound m (free_all i rs s).state
unfolding free_all wake
free_all_sound m i [] s h = recount h (λ k. omega arith) (λ j. refl)
free_all_sound m i (r ∷ rs) s h =
    free_all_sound m i rs (wake s.clock r s) (wakes_up m s h s.clock r (omega arith) h.clock_ok (λ k. omega arith))

-- THE PROCESS q in place p of r has the floor in s. Each action of it, and the end of a block, leads on to a sound state.
module _ (m : Model) (t : Fit m) (r : State) (p : ℕ) where
  abbrev s : State
  s = with_floor r (held_by p)

  abbrev q : Process
  q = process r p

  abbrev At : Action → Type 0
  At a = stands_in m q.frames ≡ some a

  module _ (h : Sound m s) where
    one : 1 ≤ once p p
    one = let a = once_self p in omega arith

    fine : Fine m s.last q
    fine = hand_fine h p one

    pub passes : (a : Action) → At a → Sound m (put p (past q) s)
    passes a e = goes_past m s h p one q a e fine refl refl (λ k. refl) (λ j. refl)

    value :
        (x : Expr) {f : Valued → Outcome Next} → ExprFit m x → ((v : Valued) → ValuedOk m v → Leads m (f v))
        → Leads m (eval m s q x s.seeds >>= f)
    value x k g =
        good_then (ValuedOk m) (λ n. Sound m n.state) (eval m s q x s.seeds)
        (eval_good m t s q h.globals_ok fine.locals_ok h.clock_ok x k s.seeds h.seeds_ok) g

    hold_sound : (x : Expr) → At (HOLD x) → ExprFit m x → Leads m (hold m s p x)
    unfolding hold
    hold_sound x e k =
        value x k λ v i.
        let n : ℕ = s.clock + nat_abs v.value in
        good_need No.BACK (non_neg v.value) λ h₁.
        good_need No.LATE (leb n No.latest) λ h₂.
        good
        (wakes_up m (with_seeds (with_floor (put p (past q) s) empty) v.seeds)
        (seeds_are (passes (HOLD x) e) i.seeds_ok) n p (omega arith) (leb-true n No.latest h₂) (λ k. omega arith))

    prio_sound : (x : Expr) → At (PRIO x) → ExprFit m x → Leads m (prio m s p x)
    unfolding prio
    prio_sound x e k =
        value x k λ v i.
        let w : ℤ = if le_z lowest v.value then v.value else lowest in
        let b = priority_ok v.value i.value_ok in
        good
        (seeds_are (goes_past m s h p one (with_priority q w) (PRIO x) e (fine_priority fine w b.0 b.1) refl refl
        (λ k. refl) (λ j. refl)) i.seeds_ok)

    trace_sound : (x : Expr) → At (TRACE x) → ExprFit m x → Leads m (trace m s p x)
    unfolding trace
    trace_sound x e k = value x k λ v i. good (seeds_are (passes (TRACE x) e) i.seeds_ok)

    set_local_sound : (j : ℕ) (x : Expr) → At (LSET j x) → ExprFit m x → Leads m (set_local m s p j x)
    unfolding set_local
    set_local_sound j x e k =
        value x k λ v i.
        good
        (seeds_are (goes_past m s h p one (with_locals q (set q.locals j v.value)) (LSET j x) e
        (fine_local fine j v.value i.value_ok) refl refl (λ k. refl) (λ j. refl)) i.seeds_ok)

    set_global_sound : (j : ℕ) (x : Expr) → At (SET j x) → ExprFit m x → Leads m (set_global m s p j x)
    unfolding set_global
    set_global_sound j x e k =
        value x k λ v i.
        good
        (walk_sound m t (with_globals (with_seeds (put p (past q) s) v.seeds) (set s.globals j v.value))
        (global_is (seeds_are (passes (SET j x) e) i.seeds_ok) j v.value i.value_ok))

    do_sound : (n b : ℕ) → At (DO n b) → Leads m (do_times m s p n b)
    unfolding do_times into
    do_sound zero b e = good (passes (DO zero b) e)
    do_sound (suc n) b e =
        let a : within 1 (suc n) (suc n) ≡ true = true-and (leb 1 (suc n)) _ (omega (arith, le-leb)) (omega (arith, le-leb)) in
        let c = true-and (eqb b b) _ (eq-eqb b b refl) a in
        good (goes_into m s h p one _ (chain_into m q.frames (DO (suc n) b) b (suc n) fine.frames_ok e c) refl)

    notify_sound :
        (a : Action) → At a → (n : Notice) (x : Process) → Fine m s.last x → x.frames ≡ q.frames → x.number ≡ q.number
        → x.slaves ≡ q.slaves → owes n ≡ 1 → ((k : ℕ) → noticed k n ≡ 0)
        → NoticeOk m s.last (set s.processes p (past x)) of_returns n
        → ((j : ℕ) → get_or x.held j 0 + gives j n ≡ get_or q.held j 0) → Leads m (notify m s p n x)
    unfolding notify
    notify_sound a e n x f fr nu sv ow nw fit give =
        good_need No.NOTICES (ltb (length (keep is_return s.events)) No.returns) λ h₁.
        let b = ltb-true (length (keep is_return s.events)) No.returns h₁ in
        let c = returning_are s.events in
        let g : Held m (put p (past x) s) s.blocked (λ k. once k p) (λ j. gives j n) =
        goes_past m s h p one x a e f fr nu (λ k. ap (λ y. slaved k y + once k p) sv) (λ j. let d = give j in omega arith) in
        good
        (is_entered g (record { time = s.clock; priority = of_returns; notice = n })
        (record { not_before = omega arith; not_late = h.clock_ok; tells = fit }) (omega arith)
        (λ k. let d = nw k in omega arith) (λ j. omega arith))

    putr_sound : (i n : ℕ) → At (PUTR i n) → ActFit m (PUTR i n) → Leads m (putr m s p i n)
    unfolding putr
    putr_sound i n e k =
        good_need No.HELD (leb n (get_or q.held i 0)) λ h₁.
        let f = fine in
        let k₀ = k.0 in
        notify_sound (PUTR i n) e (returns_r i n q.number) (with_held q (fewer q.held i n))
        (fine_held f _ (length-set q.held i _)) refl refl refl refl (λ k. refl)
        (record { is_low = refl; is_known = k₀; amount_ok = k.1; giver_ok = omega arith })
        (λ j. less_at q.held i n j (omega arith) (leb-true n (get_or q.held i 0) h₁))

    putb_sound : (i n : ℕ) → At (PUTB i n) → ActFit m (PUTB i n) → Leads m (putb m s p i n)
    unfolding putb
    putb_sound i n e k =
        let f = fine in
        notify_sound (PUTB i n) e (returns_b i n q.number) q f refl refl refl refl (λ k. refl)
        (record { is_low = refl; is_known = k.0; amount_ok = k.1; giver_ok = omega arith }) (λ j. omega arith)

    puts_sound : (i n : ℕ) → At (PUTS i n) → Leads m (puts m s p i n)
    unfolding puts
    puts_sound i n e =
        good_need No.OWNED (leb n (length (keep (λ x. eqb x.of i) q.slaves))) λ h₁.
        let x : Process = with_slaves q (stay i n q.slaves) in
        let f = fine_slaves fine _ (stay_all i (λ x. x.of < m.syncs) n q.slaves fine.slaves_ok) in
        good
        (free_all_sound m i (freed i n q.slaves) (put p (past x) s)
        (goes_past m s h p one x (PUTS i n) e f refl refl (λ k. let a = freed-stay i k n q.slaves in omega arith)
        (λ j. refl)))

    become_sound : (i : ℕ) → At (BECOME i) → i < m.syncs → Leads m (become m s p i)
    unfolding become
    become_sound i e k =
        let u : State = with_floor (put p (past q) s) empty in
        let a = h.syncs_many in
        good
        (walk_sound m t (with_waiting u (set u.waiting i (join u p (get_or u.waiting i []))))
        (joins u (passes (BECOME i) e) p (λ k. omega arith) i (omega arith)))

    granted :
        (a : Action) (ws : List Waiter) → At a → (i : ℕ) (o : Offer) → choice m s ws (offers a) ≡ goes i o → Sound m (grant p o s)
    granted a ws e i o g =
        let st = still_grant p o s in
        rw (st.same_floor, st.same_blocked) (goes_held m t s ws s.blocked (λ k. once k p) p one h i o a e g)

    request_sound : (a : Action) → At a → asking a ≡ true → Leads m (request m s p a)
    unfolding request
    request_sound a e k =
        choice_has (Leads m) (choice m s (in_front m s p) (offers a))
        (λ r g. good (blocks s h p (λ k. omega arith) (ap asks_at e ∙ k)))
        (λ i o g. good (granted a (in_front m s p) e i o g))

    while_sound : (a : Action) → At a → Leads m (while m s p a)
    unfolding while
    while_sound a e =
        choice_has (Leads m) (choice m s (in_front m s p) (offers a)) (λ r g. good (passes a e))
        (λ i o g. good (granted a (in_front m s p) e i o g))

    -- The giver goes on with as many blocks, so there is still a free place.
    start_sound : (c d : ℕ) (hs : List Share) → At (START c d hs) → ActFit m (START c d hs) → Leads m (start m s p c d hs)
    unfolding start past begin wake
    start_sound c d hs e k =
        good_need No.LATE (leb (s.clock + d) No.latest) λ h₁.
        good_need No.HELD (all (λ x. leb x.amount (get_or q.held x.of 0)) hs) λ h₂.
        good_need No.FULL (ltb (living s) No.places && ltb s.last No.last_number) λ h₃.
        let b = and-true (ltb (living s) No.places) _ h₃ in
        let known = all_map (ShareFit m) (λ x. x.of < length m.totals) (λ x a. a.0) hs k.3 in
        let many = fine.held_many in
        let x : Process = with_held q (kept hs q.held) in
        let giver : State = put p (past x) s in
        let g : Held m giver s.blocked (λ k. once k p) (λ j. hand_over j hs) =
        goes_past m s h p one x (START c d hs) e (fine_held fine _ (kept_length hs q.held)) refl refl (λ k. refl)
        (λ j. let a = kept_at hs q.held j (rw many known) k.4 (all_hold _ hs h₂) in omega arith) in
        let room : living_in giver.processes < No.places =
        let a = over_still (λ q. al q.frames) s.processes p (past x) nobody (onward-al q.frames) in
        let f = living_are s in let u = ltb-true (living s) No.places b.0 in omega arith in
        let zeros : List ℕ = map (λ x. 0) q.held in
        let zeros_many : length zeros ≡ length m.totals = length-map q.held (λ x. 0) ∙ many in
        good
        (begins m giver g c (s.clock + d) (handed hs zeros) (ltb-true s.last No.last_number b.1) room k.0
        (handed-length hs zeros ∙ zeros_many) (omega arith) (leb-true (s.clock + d) No.latest h₁)
        (λ j. let a = handed_at hs zeros j (rw zeros_many known) in let w = zeros_at q.held j in omega arith))

    close_sound : At CLOSE → Leads m (close m s p)
    unfolding close
    close_sound e = good (passes CLOSE e)

    act_sound : (a : Action) → At a → ActFit m a → Leads m (act m s p a)
    unfolding act
    act_sound (HOLD x) e k = hold_sound x e k
    act_sound (PRIO x) e k = prio_sound x e k
    act_sound (TRACE x) e k = trace_sound x e k
    act_sound (SET i x) e k = set_global_sound i x e k.1
    act_sound (LSET i x) e k = set_local_sound i x e k.1
    act_sound (DO n b) e k = do_sound n b e
    act_sound (PUTR i n) e k = putr_sound i n e k
    act_sound (PUTB i n) e k = putb_sound i n e k
    act_sound (PUTS i n) e k = puts_sound i n e
    act_sound (BECOME i) e k = become_sound i e k
    act_sound (REQ c) e k = request_sound (REQ c) e refl
    act_sound (TRY bs) e k = request_sound (TRY bs) e refl
    act_sound (WHILE b c) e k = while_sound (WHILE b c) e
    act_sound (START c d hs) e k = start_sound c d hs e k
    act_sound CLOSE e k = close_sound e

    -- The end of a block, and of the class body.
    ends_sound : Leads m (ends m s p)
    unfolding ends
    ends_sound =
        good_need No.OWING (all (λ n. eqb n 0) q.held && is_empty q.slaves) λ h₁.
        let b = and-true (all (λ n. eqb n 0) q.held) _ h₁ in
        let none_held = all_hold (λ n. eqb n 0) q.held b.0 in
        good
        (remove h p one (λ k. omega arith) (λ k. ap (slaved k) (empty_is q.slaves b.1))
        (λ j. eqb-true _ 0 (all_get (λ n. eqb n 0 ≡ true) q.held j 0 none_held refl)))

    exhausted_sound : (fs : List Frame) → q.frames ≡ fs → Leads m (exhausted m s p fs)
    unfolding exhausted
    exhausted_sound [] e = stopped
    exhausted_sound (f ∷ fs) e =
        let c : chained m (f ∷ fs) ≡ true = ap (chained m) (sym e) ∙ fine.frames_ok in
        if_has (Leads m) (ltb 1 f.rounds)
        (λ l. good (goes_into m s h p one _ (chain_again m f fs (ltb-true 1 f.rounds l) c) refl))
        (λ l. outward fs (chain_parts m f fs c).1)
      where
        outward :
            (gs : List Frame) → chained m gs ≡ true
            → Leads m (if is_empty gs then ends m s p else ok (quiet (put p (with_frames q (leave m gs)) s)))
        outward [] k = ends_sound
        outward (g ∷ gs) k = good (goes_into m s h p one _ (leave_chain m (g ∷ gs) k) (leave-al m g gs))

    moves_sound : Leads m (moves m s p)
    moves_sound =
        moves_has (Leads m) m s p (λ e. exhausted_sound q.frames refl)
        (λ a e. act_sound a e (fit_at m t q.frames a e))

-- ONE STEP.
module _ (m : Model) (t : Fit m) where
  occurs_sound :
      (s : State) (x : Notice) (c : ℤ) → s.floor ≡ empty → NoticeOk m s.last s.processes c x
      → Held m s s.blocked (λ k. noticed k x) (λ j. gives j x) → Leads m (occurs m s x)
  unfolding occurs
  occurs_sound s (wakes p) c e k h = moves_sound m t s p h
  occurs_sound s (returns_r i n g) c e k h =
      let known = k.is_known in
      let many = h.frees_many in
      let a : Held m (with_free s (more s.free i n)) s.blocked (λ k. 0) (λ j. 0) =
      frees h (more s.free i n) (length-set s.free i _)
      (λ j. let a = more_at s.free i n j (omega arith) in omega arith) in
      good (walk_sound m t (with_free s (more s.free i n)) (recount a (λ k. ap (on_floor k) e) (λ j. refl)))
  occurs_sound s (returns_b i n g) c e k h =
      good_need No.BIN (leb (get_or s.bins i 0 + n) No.full_bin) λ h₁.
      let a = bin_is h i (get_or s.bins i 0 + n) (leb-true (get_or s.bins i 0 + n) No.full_bin h₁) in
      good (walk_sound m t (with_bins s (more s.bins i n)) (recount a (λ k. ap (on_floor k) e) (λ j. refl)))

  next_sound :
      (s : State) (es : List Event) → s.floor ≡ empty → Held m (with_events s es) s.blocked (λ k. 0) (λ j. 0)
      → Leads m (next m s es)
  unfolding next
  next_sound s [] e h = stopped
  next_sound s (x ∷ xs) e h =
      occurs_sound (with_events (at_clock s x.time) xs) x.notice x.priority e h.events_ok.0.tells
      (first_event_out h (λ k. omega arith) (λ j. omega arith))

pub step_sound : (m : Model) → Fit m → (s : State) → Sound m s → Good (λ n. Sound m n.state) (step m s)
unfolding step
step_sound m t s h = go s.floor refl
  where
    go : (f : Floor) → s.floor ≡ f → Leads m (elim f [ held_by p ↦ moves m s p | empty ↦ next m s s.events ])
    go (held_by p) e =
        let same : with_floor s (held_by p) ≡ s = ap (with_floor s) (sym e) in
        subst (λ u. Leads m (moves m u p)) same
        (moves_sound m t s p (recount h (λ k. ap (on_floor k) (sym e)) (λ j. refl)))
    go empty e = next_sound m t s s.events e (recount h (λ k. ap (on_floor k) (sym e)) (λ j. refl))

pub step_ok : (m : Model) → Fit m → (s : State) → Sound m s → (n : Next) → step m s ≡ ok n → Sound m n.state
step_ok m t s h n e = good_out (λ n. Sound m n.state) (step m s) n e (step_sound m t s h)
