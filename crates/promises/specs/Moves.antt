-- The small changes that a step is made of. Each keeps what holds of a sound run: what it takes out of a list, or from a
-- resource, is in hand then, and what it puts there was. A change states the clauses that it touches; `search` takes over
-- the rest.
-- Assumes nothing.
use Rattle.std.specs.Prelude.{ℕ, zero, suc, ◌+◌, ◌≤◌, ◌<◌, ◌≡◌, refl, List, [], ◌∷◌, ◌++◌, true, length, get_or, set, take, drop, ℤ}
use Rattle.std.proofs.Common.{arith, sym, ap, ◌∙◌, length-set}
use Rattle.semantics.specs.Numbers as No
use Rattle.semantics.specs.Model.{Model}
use Rattle.semantics.specs.State.{State, Process, Waiter, Event, Notice, wakes, returns_r, returns_b, nobody, process, enter}
use Rattle.semantics.specs.State.{join}
use Rattle.semantics.specs.Claim.{stands_in}
use Rattle.semantics.specs.Sound.{asks_at}
use Rattle.promises.specs.Laws.{AllOf, all_map, all_both, all_set, all_get, all_cut, all_drop, Ordered, ordered_cut}
use Rattle.promises.specs.Laws.{ordered_drop, over-append, over-set, over_split, over_zero, only, once, once_same}
use Rattle.promises.specs.Laws.{only_none, once_self, once_apart, set_away, over_at}
use Rattle.promises.specs.Fit.{I32, Within}
use Rattle.promises.specs.Sound.{al, noticed, in_events, waits, in_all, slaved, bearing, gives, owes, returning, Fine}
use Rattle.promises.specs.Sound.{ProcOk, ReturnOk, NoticeOk, EventOk, Late, Ranked, Tied, Stands, InOne, AddsUp, SeedsOk}
use Rattle.promises.specs.Sound.{Inv}
use Rattle.promises.specs.Keep.{enter_all, enter_ordered, enter-over, join_all, join_ordered, join-waits, away, al_one}
use Rattle.promises.specs.Keep.{alive_in, free_or_fine, FreeAt}

-- WHAT STAYS TRUE when more numbers are given, and when another process comes into place p, which is in no list.
module _ (m : Model) (n n' : ℕ) (more : n ≤ n') where
  proc_later : (q : Process) → ProcOk m n q → ProcOk m n' q
  proc_later q h =
      record { dead = h.dead; live = λ e. let a = h.live e in let b : q.number ≤ n' = omega arith in search }

  return_later : (known : ℕ) (x : ℤ) (i a g : ℕ) → ReturnOk known n x i a g → ReturnOk known n' x i a g
  return_later known x i a g h = let b : Within 1 n' g = omega arith in search

  module _ (ps : List Process) (p : ℕ) (r : Process) where
    notice_away : (x : ℤ) (e : Notice) → noticed p e ≡ 0 → NoticeOk m n ps x e → NoticeOk m n' (set ps p r) x e
    notice_away x (wakes k) t h = rw (set_away ps p k r nobody t) h
    notice_away x (returns_r i a g) t h = return_later (length m.totals) x i a g h
    notice_away x (returns_b i a g) t h = return_later (length m.amounts) x i a g h

    events_away :
        (c : ℕ) (es : List Event) → in_events p es ≡ 0 → AllOf (EventOk m c n ps) es → AllOf (EventOk m c n' (set ps p r)) es
    events_away c es =
        away (λ e. noticed p e.notice) (EventOk m c n ps) (EventOk m c n' (set ps p r))
        (λ e t h. let a = notice_away e.priority e.notice t h.tells in search) es

-- P is what a list asks of the process in a waiter's place.
module _ (P : Process → Waiter → Type 0) (ps : List Process) (p : ℕ) (r : Process) where
  abbrev Asked : List Process → Waiter → Type 0
  Asked qs w = P (get_or qs w.place nobody) w

  waiters_away : (l : List Waiter) → waits p l ≡ 0 → AllOf (Asked ps) l → AllOf (Asked (set ps p r)) l
  waiters_away =
      away (λ w. once p w.place) (Asked ps) (Asked (set ps p r)) (λ w t h. rw (set_away ps p w.place r nobody t) h)

pub nobody_ok : (m : Model) (n : ℕ) → ProcOk m n nobody
nobody_ok m n = record { dead = λ e. search; live = λ e. absurd (omega arith) }

module _
    {m : Model} {c n : ℕ} {gs : List ℤ} {fr bi sd : List ℕ} {wa : List (List Waiter)} {es : List Event} {ps : List Process}
    {l : List Waiter} {z y : ℕ → ℕ} (h : Inv m c n gs fr bi sd wa es ps l z y) where
  -- WHO IS IN HAND lives and is in no list; who does not live is in none either.
  pub record Loose (p : ℕ) : Type 0 where
    pub off_blocked : waits p l ≡ 0
    pub off_events : in_events p es ≡ 0
    pub off_waiting : in_all p wa ≡ 0

  pub hand_loose : (p : ℕ) → 1 ≤ z p → Loose p
  hand_loose p e = let a = h.in_one p in let b = al_one (get_or ps p nobody).frames in omega arith

  pub dead_loose : (p : ℕ) → al (get_or ps p nobody).frames ≡ 0 → Loose p
  dead_loose p e = let a = h.in_one p in omega arith

  pub hand_alive : (p : ℕ) → 1 ≤ z p → al (get_or ps p nobody).frames ≡ 1
  hand_alive p e = let a = h.in_one p in let b = al_one (get_or ps p nobody).frames in omega arith

  pub hand_in : (p : ℕ) → 1 ≤ z p → p < length ps
  hand_in p e = let a = hand_alive p e in alive_in ps p (omega arith)

  pub proc_at : (p : ℕ) → ProcOk m n (get_or ps p nobody)
  proc_at p = all_get (ProcOk m n) ps p nobody h.procs_ok (nobody_ok m n)

  pub hand_fine : (p : ℕ) → 1 ≤ z p → Fine m n (get_or ps p nobody)
  hand_fine p e = let a = hand_alive p e in (proc_at p).live (omega arith)

  -- What is in hand counts only by how much.
  pub recount :
      {z' y' : ℕ → ℕ} → ((k : ℕ) → z' k ≡ z k) → ((i : ℕ) → y' i ≡ y i) → Inv m c n gs fr bi sd wa es ps l z' y'
  recount {z'} {y'} e f =
      let a : (k : ℕ) → InOne es wa ps l z' k = λ k. let b = h.in_one k in let d = e k in omega arith in
      let b : (i : ℕ) → AddsUp m fr ps es y' i = λ i. let b = h.adds_up i in let d = f i in omega arith in
      search

  -- PROCESSES. A place that is in no list gets another process.
  module _ {z' y' : ℕ → ℕ} (p : ℕ) (r : Process) where
    replace :
        {n' : ℕ} → n ≤ n' → n' ≤ No.last_number → p < length ps → Loose p → ProcOk m n' r
        → ((k : ℕ) → 1 ≤ k → once k r.number + bearing k ps ≤ 1 + once k (get_or ps p nobody).number)
        → ((k : ℕ)
        → slaved k r.slaves + only k p (al (get_or ps p nobody).frames) + z' k
        ≡ slaved k (get_or ps p nobody).slaves + only k p (al r.frames) + z k)
        → ((i : ℕ) → get_or r.held i 0 + y' i ≡ get_or (get_or ps p nobody).held i 0 + y i)
        → Inv m c n' gs fr bi sd wa es (set ps p r) l z' y'
    replace {n'} more most i o ok ns zs ys =
        let qs : List Process = set ps p r in
        let a : length qs ≡ No.places = length-set ps p r ∙ h.places_64 in
        let later = all_map (ProcOk m n) (ProcOk m n') (proc_later m n n' more) ps h.procs_ok in
        let b : AllOf (ProcOk m n') qs = all_set (ProcOk m n') ps p r later ok in
        let d = events_away m n n' more ps p r c es o.off_events h.events_ok in
        let tied = waiters_away (λ q w. w.priority ≡ q.priority) ps p r in
        let e : AllOf (Tied qs) l = tied l o.off_blocked h.blocked_tied in
        let f : AllOf (AllOf (Tied qs)) wa =
        away (waits p) (AllOf (Tied ps)) (AllOf (Tied qs)) tied wa o.off_waiting h.waiting_tied in
        let g : AllOf (Stands m qs) l =
        waiters_away (λ q w. asks_at (stands_in m q.frames) ≡ true) ps p r l o.off_blocked h.blocked_stand in
        let u : (k : ℕ) → 1 ≤ k → bearing k qs ≤ 1 =
        λ k j. let a = over-set (λ q. once k q.number) ps p r nobody i in let b = ns k j in omega arith in
        let v : (k : ℕ) → InOne es wa qs l z' k =
        λ k.
        let a = over-set (λ q. slaved k q.slaves) ps p r nobody i in
        let b = over_at (λ q. al q.frames) ps p k r nobody i in
        let d = h.in_one k in let e = zs k in omega arith in
        let w : (i : ℕ) → AddsUp m fr qs es y' i =
        λ j.
        let a = over-set (λ q. get_or q.held j 0) ps p r nobody i in
        let b = h.adds_up j in let d = ys j in omega arith in
        search

    -- Whoever is in hand changes; slaves and resources may go into hand or come out of it.
    pub alter :
        1 ≤ z p → Fine m n r → al r.frames ≡ 1 → r.number ≡ (get_or ps p nobody).number
        → ((k : ℕ) → slaved k r.slaves + z' k ≡ slaved k (get_or ps p nobody).slaves + z k)
        → ((i : ℕ) → get_or r.held i 0 + y' i ≡ get_or (get_or ps p nobody).held i 0 + y i)
        → Inv m c n gs fr bi sd wa es (set ps p r) l z' y'
    alter e fine lives num zs ys =
        replace (omega arith) h.last_ok (hand_in p e) (hand_loose p e)
        (record { dead = λ d. absurd (omega arith); live = λ d. fine })
        (λ k g. let a = h.own_number k g in let b = ap (once k) num in omega arith)
        (λ k. let a = ap (only k p) (hand_alive p e ∙ sym lives) in let b = zs k in omega arith)
        ys

  -- Whoever is in hand ends, with nothing held and no slave.
  pub remove :
      {z' : ℕ → ℕ} (p : ℕ) → 1 ≤ z p → ((k : ℕ) → once k p + z' k ≡ z k)
      → ((k : ℕ) → slaved k (get_or ps p nobody).slaves ≡ 0) → ((i : ℕ) → get_or (get_or ps p nobody).held i 0 ≡ 0)
      → Inv m c n gs fr bi sd wa es (set ps p nobody) l z' y
  remove p e zs ss hs =
      replace p nobody (omega arith) h.last_ok (hand_in p e) (hand_loose p e) (nobody_ok m n)
      (λ k g. let a = h.own_number k g in let b = once_apart k 0 (λ d. absurd (omega arith)) in omega arith)
      (λ k. let a = ap (only k p) (hand_alive p e) in let b = zs k in let d = ss k in let f = only_none k p in omega arith)
      (λ j. let a = hs j in omega arith)

  -- One above the last given is a new number.
  number_above : (k : ℕ) → n < k → bearing k ps ≡ 0
  number_above k g = over_zero (λ q. once k q.number) (ProcOk m n) other ps h.procs_ok
    where
      other : (q : Process) → ProcOk m n q → once k q.number ≡ 0
      other q o =
          free_or_fine _ o (λ e v. let a = v.no_number in once_apart k q.number (λ d. absurd (omega arith)))
          (λ e f. let a = f.is_given in once_apart k q.number (λ d. absurd (omega arith)))

  number_new : (k : ℕ) → 1 ≤ k → once k (n + 1) + bearing k ps ≤ 1
  number_new k g = by (once k (n + 1)) refl
    where
      by : (a : ℕ) → once k (n + 1) ≡ a → once k (n + 1) + bearing k ps ≤ 1
      by zero e = let a = h.own_number k g in omega arith
      by (suc a) e =
          let b = once_same k (n + 1) (omega arith) in
          let d = number_above (n + 1) (omega arith) in
          let f = once_self (n + 1) in
          rw b (omega arith)

  -- A new process comes into a free place.
  pub create :
      {z' y' : ℕ → ℕ} (p : ℕ) (r : Process) → n < No.last_number → FreeAt ps p → Fine m (n + 1) r → al r.frames ≡ 1
      → r.number ≡ n + 1 → r.slaves ≡ [] → ((k : ℕ) → z' k ≡ once k p + z k) → ((i : ℕ) → get_or r.held i 0 + y' i ≡ y i)
      → Inv m c (n + 1) gs fr bi sd wa es (set ps p r) l z' y'
  create p r more free fine lives num slv zs ys =
      let v = (proc_at p).dead free.1 in
      replace p r (omega arith) (omega arith) free.0 (dead_loose p free.1)
      (record { dead = λ d. absurd (omega arith); live = λ d. fine })
      (λ k g. let a = number_new k g in let b = ap (once k) num in omega arith)
      (λ k.
      let a = ap (only k p) free.1 in let b = ap (only k p) lives in let d = only_none k p in
      let e = ap (slaved k) slv in let f = ap (slaved k) v.no_slaves in let g = zs k in omega arith)
      (λ j. let a : get_or (get_or ps p nobody).held j 0 ≡ 0 = ap (λ t. get_or t j 0) v.no_held in let b = ys j in omega arith)

  -- LISTS. An event is entered.
  pub is_entered :
      {z' y' : ℕ → ℕ} (e : Event) → EventOk m c n ps e → owes e.notice + returning es ≤ No.returns
      → ((k : ℕ) → noticed k e.notice + z' k ≡ z k) → ((i : ℕ) → gives i e.notice + y' i ≡ y i)
      → Inv m c n gs fr bi sd wa (enter e es) ps l z' y'
  is_entered {z'} {y'} e ok few zs ys =
      let a = enter_all e es (EventOk m c n ps) ok h.events_ok in
      let b = enter_ordered e es h.events_ordered in
      let d : returning (enter e es) ≤ No.returns = let a = enter-over e es (λ e. owes e.notice) in omega arith in
      let f : (k : ℕ) → InOne (enter e es) wa ps l z' k =
      λ k. let a = enter-over e es (λ e. noticed k e.notice) in let b = h.in_one k in let d = zs k in omega arith in
      let g : (i : ℕ) → AddsUp m fr ps (enter e es) y' i =
      λ i. let a = enter-over e es (λ e. gives i e.notice) in let b = h.adds_up i in let d = ys i in omega arith in
      search

  -- The waiting list of sync i, and the blocked list, become others.
  waiting_is :
      {z' : ℕ → ℕ} (i : ℕ) (v : List Waiter) → i < length wa → Ordered Ranked v → AllOf (Tied ps) v
      → ((k : ℕ) → waits k v + z' k ≡ waits k (get_or wa i []) + z k) → Inv m c n gs fr bi sd (set wa i v) es ps l z' y
  waiting_is {z'} i v g o t zs =
      let a : length (set wa i v) ≡ m.syncs = length-set wa i v ∙ h.syncs_many in
      let b = all_set (Ordered Ranked) wa i v h.waiting_ordered o in
      let d = all_set (AllOf (Tied ps)) wa i v h.waiting_tied t in
      let f : (k : ℕ) → InOne es (set wa i v) ps l z' k =
      λ k. let a = over-set (waits k) wa i v [] g in let b = h.in_one k in let d = zs k in omega arith in
      search

  blocked_is :
      {l' : List Waiter} {z' : ℕ → ℕ} → Ordered Ranked l' → AllOf (Tied ps) l' → AllOf (Stands m ps) l'
      → ((k : ℕ) → waits k l' + z' k ≡ waits k l + z k) → Inv m c n gs fr bi sd wa es ps l' z' y
  blocked_is {l'} {z'} o t g zs =
      let a : (k : ℕ) → InOne es wa ps l' z' k = λ k. let a = h.in_one k in let b = zs k in omega arith in
      search

  -- The first k leave a waiting list.
  pub unwaits :
      {z' : ℕ → ℕ} (i k : ℕ) → i < length wa → ((j : ℕ) → z' j ≡ waits j (take k (get_or wa i [])) + z j)
      → Inv m c n gs fr bi sd (set wa i (drop k (get_or wa i []))) es ps l z' y
  unwaits i k g zs =
      let w : List Waiter = get_or wa i [] in
      waiting_is i (drop k w) g
      (ordered_drop Ranked k w (all_get (Ordered Ranked) wa i [] h.waiting_ordered tt))
      (all_drop (Tied ps) k w (all_get (AllOf (Tied ps)) wa i [] h.waiting_tied tt))
      (λ j. let a = zs j in let b = over_split (λ x. once j x.place) k w in omega arith)

  -- AMOUNTS free and in a bin, and a global.
  pub frees :
      {y' : ℕ → ℕ} (fr' : List ℕ) → length fr' ≡ length fr → ((i : ℕ) → get_or fr' i 0 + y' i ≡ get_or fr i 0 + y i)
      → Inv m c n gs fr' bi sd wa es ps l z y'
  frees {y'} fr' e f =
      let a : length fr' ≡ length m.totals = e ∙ h.frees_many in
      let b : (i : ℕ) → AddsUp m fr' ps es y' i = λ i. let a = h.adds_up i in let b = f i in omega arith in
      search

  pub bin_is : (i a : ℕ) → a ≤ No.full_bin → Inv m c n gs fr (set bi i a) sd wa es ps l z y
  bin_is i a e =
      let b : length (set bi i a) ≡ length m.amounts = length-set bi i a ∙ h.bins_many in
      let d = all_set (λ x. x ≤ No.full_bin) bi i a h.bins_ok e in
      search

  pub seeds_are : {d : List ℕ} → SeedsOk m d → Inv m c n gs fr bi d wa es ps l z y
  seeds_are o = search

  pub global_is : (i : ℕ) (v : ℤ) → I32 v → Inv m c n (set gs i v) fr bi sd wa es ps l z y
  global_is i v e =
      let a : length (set gs i v) ≡ length m.vars = length-set gs i v ∙ h.vars_many in
      let b = all_set I32 gs i v h.globals_ok e in
      search

module _ {m : Model} {c n : ℕ} {gs : List ℤ} {fr bi sd : List ℕ} {wa : List (List Waiter)} {z z' y : ℕ → ℕ} where
  -- The first event is taken out, and the clock becomes its time.
  pub first_event_out :
      {y' : ℕ → ℕ} {e : Event} {es : List Event} {ps : List Process} {l : List Waiter}
      → Inv m c n gs fr bi sd wa (e ∷ es) ps l z y
      → ((k : ℕ) → z' k ≡ noticed k e.notice + z k) → ((i : ℕ) → y' i ≡ gives i e.notice + y i)
      → Inv m e.time n gs fr bi sd wa es ps l z' y'
  first_event_out {y'} {e} {es} {ps} {l} h zs ys =
      let a : AllOf (EventOk m e.time n ps) es =
      all_map (λ f. Late e f × EventOk m c n ps f) (EventOk m e.time n ps)
      (λ f b. record { not_before = b.0.in_time; not_late = b.1.not_late; tells = b.1.tells }) es
      (all_both (Late e) (EventOk m c n ps) es h.events_ordered.0 h.events_ok.1) in
      let b : returning es ≤ No.returns = let a = h.few_returns in omega arith in
      let d : (k : ℕ) → InOne es wa ps l z' k = λ k. let a = h.in_one k in let b = zs k in omega arith in
      let f : (i : ℕ) → AddsUp m fr ps es y' i = λ i. let a = h.adds_up i in let b = ys i in omega arith in
      search

  -- One of the blocked list is taken out.
  pub unblocks :
      {es : List Event} {ps : List Process} (l : List Waiter) (w : Waiter) (l' : List Waiter)
      → Inv m c n gs fr bi sd wa es ps (l ++ w ∷ l') z y → ((k : ℕ) → z' k ≡ once k w.place + z k)
      → Inv m c n gs fr bi sd wa es ps (l ++ l') z' y
  unblocks {ps = ps} l w l' h zs =
      blocked_is h (ordered_cut Ranked l w l' h.blocked_ordered) (all_cut (Tied ps) l w l' h.blocked_tied)
      (all_cut (Stands m ps) l w l' h.blocked_stand)
      (λ k.
      let f : Waiter → ℕ = λ x. once k x.place in
      let a = over-append f l (w ∷ l') in let b = over-append f l l' in let d = zs k in omega arith)

  -- Whoever is in hand joins a waiting list, or the blocked list.
  module _
      {es : List Event} {l : List Waiter} (s : State) (h : Inv m c n gs fr bi sd wa es s.processes l z y) (p : ℕ)
      (zs : (k : ℕ) → once k p + z' k ≡ z k) where
    pub joins : (i : ℕ) → i < length wa → Inv m c n gs fr bi sd (set wa i (join s p (get_or wa i []))) es s.processes l z' y
    joins i g =
        let w : List Waiter = get_or wa i [] in
        waiting_is h i (join s p w) g
        (join_ordered s p w (all_get (Ordered Ranked) wa i [] h.waiting_ordered tt))
        (join_all s p w (Tied s.processes) refl (all_get (AllOf (Tied s.processes)) wa i [] h.waiting_tied tt))
        (λ k. let a = join-waits s p w k in let b = zs k in omega arith)

    pub blocks :
        Stands m s.processes (record { priority = (process s p).priority; place = p })
        → Inv m c n gs fr bi sd wa es s.processes (join s p l) z' y
    blocks g =
        blocked_is h (join_ordered s p l h.blocked_ordered) (join_all s p l (Tied s.processes) refl h.blocked_tied)
        (join_all s p l (Stands m s.processes) g h.blocked_stand)
        (λ k. let a = join-waits s p l k in let b = zs k in omega arith)
