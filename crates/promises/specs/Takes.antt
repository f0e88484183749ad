-- Taking a claim and the walk keep what holds of a sound run.
-- Assumes nothing.
use Rattle.std.specs.Prelude.{ℕ, suc, ◌+◌, ◌≤◌, ◌<◌, Bool, ◌&&◌, eqb, set, take, drop}
use native.Mathlib.Omega.{arith}
use Rattle.std.proofs.Math.Path.{◌≡◌, refl, ap}
use Rattle.std.proofs.Common.{◌∙◌, leb-true, eq-eqb, length-set}
use mathlib.Core.List.{List, [], ◌∷◌, ◌++◌, map, append_assoc, append-nil}
use Rattle.std.proofs.Math.Bool.{true, false}
use Rattle.std.proofs.Math.Option.{Option, none, some}
use Rattle.std.proofs.lemmas.Bool.{eqb-false}
use Rattle.std.proofs.Math.ListN.{length, get_or}
use Rattle.semantics.specs.Words.{any, more, fewer}
use Rattle.semantics.specs.Numbers as No
use Rattle.semantics.specs.Model.{Kind, resource, bin, sync, Item, get, condition, Claim, Branch, Model, Action, HOLD, PRIO}
use Rattle.semantics.specs.Model.{TRACE, SET, LSET, DO, PUTR, PUTB, PUTS, BECOME, REQ, TRY, WHILE, START, CLOSE}
use Rattle.semantics.specs.State.{State, Process, Frame, Slave, Waiter, wakes, nobody, process, put, with_free, with_waiting}
use Rattle.semantics.specs.State.{with_held, with_slaves, with_frames, wake, past, into}
use Rattle.semantics.specs.Claim.{there, item_met, Test, met, lacks, test_from, test, take_item, take_all, Then, pass, enter_block}
use Rattle.semantics.specs.Claim.{Offer, offers, stands_in, offers_at, asks, same_kind, barred, Reason, is_barred, Choice, waits}
use Rattle.semantics.specs.Claim.{goes, or_lacks, first_met, choice, follow, grant}
use Rattle.semantics.specs.Walk.{Next, walk_on, walk}
use Rattle.semantics.specs.Sound.{enters, chained}
use Rattle.promises.specs.Laws.{true-and, or_left, or_right, AllOf, all_map, all_both, all_get, all_append}
use Rattle.promises.specs.Laws.{Ordered, over-append, get_still, over-map, only, once, once_self, once_apart, set_away}
use Rattle.promises.specs.Laws.{more_at, less_at}
use Rattle.promises.specs.Fit.{ItemFit, Apart, ClaimFit, BranchFit, ActFit, Fit}
use Rattle.promises.specs.Sound.{al, on_floor, waits as waiting, slaved, Fine, Held, Sound}
use Rattle.promises.specs.Moves.{hand_alive, hand_fine, alter, is_entered, unwaits, frees, bin_is, unblocks}
use Rattle.promises.specs.Parts.{fit_at, onward-al, chain_into, fine_frames, fine_past, fine_held, fine_slaves}

-- TAKING leaves the clock, the globals, the floor, the event list and the blocked list alone,
pub record Still (s t : State) : Type 0 where
  pub same_clock : t.clock ≡ s.clock
  pub same_globals : t.globals ≡ s.globals
  pub same_floor : t.floor ≡ s.floor
  pub same_events : t.events ≡ s.events
  pub same_blocked : t.blocked ≡ s.blocked

module _ (p : ℕ) where
  pub still_item : (i : Item) (s : State) → Still s (take_item p i s)
  unfolding take_item
  still_item (get resource i n) s = search
  still_item (get bin i n) s = search
  still_item (get sync i n) s = search
  still_item (condition i r v) s = search

  pub still_all : (c : Claim) (s : State) → Still s (take_all p c s)
  unfolding take_all
  still_all [] s = search
  still_all (i ∷ is) s =
      let a = still_item i s in
      let b = still_all is (take_item p i s) in
      record {
        same_clock = b.same_clock ∙ a.same_clock;
        same_globals = b.same_globals ∙ a.same_globals;
        same_floor = b.same_floor ∙ a.same_floor;
        same_events = b.same_events ∙ a.same_events;
        same_blocked = b.same_blocked ∙ a.same_blocked;
      }

  pub still_grant : (o : Offer) (s : State) → Still s (grant p o s)
  unfolding grant
  still_grant o s = let a = still_all o.claim s in search

  -- and what an item apart from it looks at.
  there_apart :
      (k l : Kind) (i n j : ℕ) (s : State) → same_kind k l && eqb i j ≡ false → there (take_item p (get k i n) s) l j ≡ there s l j
  unfolding take_item
  there_apart resource resource i n j s e = set_away s.free i j _ 0 (once_apart i j (eqb-false i j e))
  there_apart resource bin i n j s e = refl
  there_apart resource sync i n j s e = refl
  there_apart bin resource i n j s e = refl
  there_apart bin bin i n j s e = set_away s.bins i j _ 0 (once_apart i j (eqb-false i j e))
  there_apart bin sync i n j s e = refl
  there_apart sync resource i n j s e = refl
  there_apart sync bin i n j s e = refl
  there_apart sync sync i n j s e = ap length (set_away s.waiting i j _ [] (once_apart i j (eqb-false i j e)))

  pub still_met : (x y : Item) (s : State) → Apart x y → item_met s y ≡ true → item_met (take_item p x s) y ≡ true
  unfolding take_item
  still_met (get k i n) (get l j o) s a h = rw (there_apart k l i n j s a) h
  still_met (condition i r v) (get l j o) s a h = h
  still_met x (condition j r v) s a h = rw (still_item x s).same_globals h

  pub take_frames : (c : Claim) (s : State) → (process (take_all p c s) p).frames ≡ (process s p).frames
  unfolding take_all take_item
  take_frames [] s = refl
  take_frames (i ∷ is) s = take_frames is (take_item p i s) ∙ of_item i
    where
      of_item : (i : Item) → (process (take_item p i s) p).frames ≡ (process s p).frames
      of_item (get resource i n) = get_still (λ (q : Process). q.frames) s.processes p _ nobody refl
      of_item (get bin i n) = refl
      of_item (get sync i n) = get_still (λ (q : Process). q.frames) s.processes p _ nobody refl
      of_item (condition i r v) = refl

-- The first n of a waiting list become slaves of sync i.
slaves_of :
    (n i : ℕ) (ws : List Waiter) → i < n
    → AllOf (λ x. x.of < n) (map {B = Slave} (λ x. record { of = i; place = x.place }) ws)
slaves_of n i [] h = tt
slaves_of n i (w ∷ ws) h = (h, slaves_of n i ws h)

-- What follows an offer is what the action names.
abbrev pub ThenOk : Action → Then → Type 0
ThenOk a pass = Unit {0}
ThenOk a (enter_block b) = enters a b 1 ≡ true

-- THE PROCESS in place p, in hand,
module _ (m : Model) (s : State) {l : List Waiter} {z : ℕ → ℕ} (h : Held m s l z (λ j. 0)) (p : ℕ) (one : 1 ≤ z p) where
  -- goes past the action where it stands, perhaps changed in another part,
  pub goes_past :
      {z' y' : ℕ → ℕ} (r : Process) (a : Action) → stands_in m (process s p).frames ≡ some a → Fine m s.last r
      → r.frames ≡ (process s p).frames → r.number ≡ (process s p).number
      → ((k : ℕ) → slaved k r.slaves + z' k ≡ slaved k (process s p).slaves + z k)
      → ((j : ℕ) → get_or r.held j 0 + y' j ≡ get_or (process s p).held j 0 + 0) → Held m (put p (past r) s) l z' y'
  unfolding past
  goes_past r a e f g n zs ys =
      alter h p (past r) one (fine_past f a (ap (stands_in m) g ∙ e)) (onward-al r.frames ∙ ap al g ∙ hand_alive h p one) n
      zs ys

  -- goes on in other blocks,
  pub goes_into :
      (fs : List Frame) → chained m fs ≡ true → al fs ≡ 1 → Held m (put p (with_frames (process s p) fs) s) l z (λ j. 0)
  goes_into fs c a =
      alter h p (with_frames (process s p) fs) one (fine_frames (hand_fine h p one) fs c) a refl (λ k. refl) (λ j. refl)

  -- goes on as an offer says, and
  pub follow_held :
      (a : Action) (t : Then) → stands_in m (process s p).frames ≡ some a → ThenOk a t
      → Held m (put p (follow t (process s p)) s) l z (λ j. 0)
  unfolding into
  follow_held a pass e k = goes_past (process s p) a e (hand_fine h p one) refl refl (λ j. refl) (λ j. refl)
  follow_held a (enter_block b) e k =
      goes_into _ (chain_into m (process s p).frames a b 1 (hand_fine h p one).frames_ok e k) refl

  -- takes an item.
  pub take_item_lem : (i : Item) → ItemFit m i → item_met s i ≡ true → Held m (take_item p i s) l z (λ j. 0)
  unfolding take_item
  take_item_lem (get resource i n) k e =
      let q : Process = process s p in
      let f = hand_fine h p one in
      let k₀ = k.0 in
      let u : i < length s.free = let a = h.frees_many in omega arith in
      let a : Held m (with_free s (fewer s.free i n)) l z (λ j. only j i n) =
      frees h (fewer s.free i n) (length-set s.free i _)
      (λ j. let b = less_at s.free i n j u (leb-true n (get_or s.free i 0) e) in omega arith) in
      alter a p (with_held q (more q.held i n)) one (fine_held f _ (length-set q.held i _)) (hand_alive h p one) refl
      (λ j. refl) (λ j. let b = more_at q.held i n j (omega arith) in omega arith)
  take_item_lem (get bin i n) k e =
      bin_is h i _ (let b = all_get (λ x. x ≤ No.full_bin) s.bins i 0 h.bins_ok (omega arith) in omega arith)
  take_item_lem (get sync i n) k e =
      let q : Process = process s p in
      let f = hand_fine h p one in
      let k₀ = k.0 in
      let w : List Waiter = get_or s.waiting i [] in
      let slave : Waiter → Slave = λ x. record { of = i; place = x.place } in
      let v : List Slave = map slave (take n w) in
      let u : i < length s.waiting = let a = h.syncs_many in omega arith in
      let a : Held m (with_waiting s (set s.waiting i (drop n w))) l (λ j. waiting j (take n w) + z j) (λ j. 0) =
      unwaits h i n u (λ j. refl) in
      let b = all_append (λ x. x.of < m.syncs) q.slaves v f.slaves_ok (slaves_of m.syncs i (take n w) k₀) in
      alter a p (with_slaves q (q.slaves ++ v)) (omega arith) (fine_slaves f _ b) (hand_alive h p one) refl
      (λ j.
      let b = over-append (λ x. once j x.place) q.slaves v in
      let d = over-map (λ x. once j x.place) slave (take n w) in
      omega arith)
      (λ j. refl)
  take_item_lem (condition i r v) k e = h

-- A claim is met where each of its items is.
pub not_met : {A : Type 0} {n : ℕ} → lacks n ≡ met → A
not_met e = let z : ◌≡◌ {A = ℕ} 0 1 = cc in absurd (omega arith)

pub all_met : (s : State) (n : ℕ) (c : Claim) → test_from n s c ≡ met → AllOf (λ i. item_met s i ≡ true) c
unfolding test_from
all_met s n [] e = tt
all_met s n (i ∷ is) e = go (item_met s i) refl (all_met s (suc n) is) e
  where
    go : (b : Bool) → item_met s i ≡ b → (test_from (suc n) s is ≡ met → AllOf (λ i. item_met s i ≡ true) is)
        → ◌≡◌ {A = Test} (elim b [ true ↦ test_from (suc n) s is | false ↦ lacks n ]) met
        → (item_met s i ≡ true) × AllOf (λ i. item_met s i ≡ true) is
    go true d f g = (d, f g)
    go false d f g = not_met g

-- It takes a claim that is met, and goes on.
module _ (m : Model) (p : ℕ) (l : List Waiter) (z : ℕ → ℕ) (one : 1 ≤ z p) where
  pub take_all_lem :
      (c : Claim) (s : State) → Held m s l z (λ j. 0) → AllOf (ItemFit m) c → Ordered Apart c → AllOf (λ i. item_met s i ≡ true) c
      → Held m (take_all p c s) l z (λ j. 0)
  unfolding take_all
  take_all_lem [] s h k a e = h
  take_all_lem (i ∷ is) s h k a e =
      take_all_lem is (take_item p i s) (take_item_lem m s h p one i k.0 e.0) k.1 a.1
      (all_map (λ x. Apart i x × (item_met s x ≡ true)) _ (λ x b. still_met p i x s b.0 b.1) is
      (all_both (Apart i) (λ x. item_met s x ≡ true) is a.0 e.1))

  pub grant_held :
      (a : Action) (o : Offer) (s : State) → Held m s l z (λ j. 0) → stands_in m (process s p).frames ≡ some a
      → ClaimFit m o.claim → ThenOk a o.and_then → test s o.claim ≡ met → Held m (grant p o s) l z (λ j. 0)
  unfolding grant
  grant_held a o s h e k t g =
      follow_held m (take_all p o.claim s)
      (take_all_lem o.claim s h k.1 k.2 (all_met s 1 o.claim g)) p one
      a o.and_then (rw (take_frames p o.claim s) e) t

-- WHAT WAS CHOSEN was offered, and is met.
pub not_goes : {A : Type 0} {r : Reason} {i : ℕ} {o : Offer} → waits r ≡ goes i o → A
not_goes e = let z : ◌≡◌ {A = ℕ} 0 1 = cc in absurd (omega arith)

-- A later branch goes as it would go without the one before it.
pub or_goes : (n : ℕ) {i : ℕ} {o : Offer} (c : Choice) → or_lacks n c ≡ goes i o → c ≡ goes i o
or_goes n (waits r) e = not_goes e
or_goes n (goes j x) e = e

module _ (P : Offer → Type 0) (s : State) (i : ℕ) (o : Offer) where
  met_in : (k : ℕ) (os : List Offer) → AllOf P os → first_met s k os ≡ goes i o → P o × (test s o.claim ≡ met)
  unfolding first_met
  met_in k [] h e = not_goes e
  met_in k (x ∷ xs) h e = go (test s x.claim) refl (λ g. met_in (suc k) xs h.1 g) e
    where
      go :
          (t : Test) → test s x.claim ≡ t → (first_met s (suc k) xs ≡ goes i o → P o × (test s o.claim ≡ met))
          → ◌≡◌ {A = Choice} (elim t [ met ↦ goes k x | lacks n ↦ or_lacks n (first_met s (suc k) xs) ]) (goes i o)
          → P o × (test s o.claim ≡ met)
      go met d f g = let z : x ≡ o = cc in (rw (← z) h.0, rw (← z) d)
      go (lacks n) d f g = f (or_goes n (first_met s (suc k) xs) g)

  pub chosen :
      (m : Model) (ws : List Waiter) (os : List Offer) → AllOf P os → choice m s ws os ≡ goes i o
      → P o × (test s o.claim ≡ met)
  unfolding choice
  chosen m ws os h e = go (barred m s ws os) e
    where
      go :
          (b : Bool) → ◌≡◌ {A = Choice} (elim b [ true ↦ waits is_barred | false ↦ first_met s 0 os ]) (goes i o)
          → P o × (test s o.claim ≡ met)
      go true g = not_goes g
      go false g = met_in 0 os h g

-- Whoever asks stands at an action that offers.
pub asks_at :
    (m : Model) (s : State) (ws : List Waiter) (p i : ℕ) (o : Offer) (P : Type 0)
    → ((a : Action) → stands_in m (process s p).frames ≡ some a → choice m s ws (offers a) ≡ goes i o → P)
    → choice m s ws (asks m s p) ≡ goes i o → P
asks_at m s ws p i o P f = go (stands_in m (process s p).frames) refl
  where
    go : (x : Option Action) → stands_in m (process s p).frames ≡ x → choice m s ws (offers_at x) ≡ goes i o → P
    go none e g = absurd (chosen (λ o. ⊥) s i o m ws [] tt g).0
    go (some a) e g = f a e g

pub choice_has :
    {A : Type 0} (P : A → Type 0) (c : Choice) {x : Reason → A} {y : ℕ → Offer → A} → ((r : Reason) → c ≡ waits r → P (x r))
    → ((i : ℕ) (o : Offer) → c ≡ goes i o → P (y i o)) → P (elim c [ waits r ↦ x r | goes i o ↦ y i o ])
choice_has P (waits r) f g = f r refl
choice_has P (goes i o) f g = g i o refl

-- What an action offers fits.
abbrev pub OfferOk : Model → Action → Offer → Type 0
OfferOk m a o = ClaimFit m o.claim × ThenOk a o.and_then

abbrev Enters : ℕ → List Branch → Type 0
Enters k bs = any (λ x. eqb x.block k) bs ≡ true

branches_ok :
    (m : Model) (us bs : List Branch) → AllOf (BranchFit m) bs → ((k : ℕ) → Enters k bs → Enters k us)
    → AllOf (OfferOk m (TRY us)) (map {B = Offer} (λ b. record { claim = b.claim; and_then = enter_block b.block }) bs)
branches_ok m us [] h f = tt
branches_ok m us (b ∷ bs) h f =
    let k : ℕ = b.block in
    let e = true-and (any (λ x. eqb x.block k) us) _ (f k (or_left (eqb k k) _ (eq-eqb k k refl))) refl in
    ((h.0.1, e), branches_ok m us bs h.1 (λ j g. f j (or_right (eqb k j) _ g)))

pub offers_ok : (m : Model) (a : Action) → ActFit m a → AllOf (OfferOk m a) (offers a)
offers_ok m (HOLD e) h = tt
offers_ok m (PRIO e) h = tt
offers_ok m (TRACE e) h = tt
offers_ok m (SET i e) h = tt
offers_ok m (LSET i e) h = tt
offers_ok m (DO n k) h = tt
offers_ok m (PUTR i n) h = tt
offers_ok m (PUTB i n) h = tt
offers_ok m (PUTS i n) h = tt
offers_ok m (BECOME i) h = tt
offers_ok m (REQ c) h = ((h, tt), tt)
offers_ok m (TRY bs) h = branches_ok m bs bs h.1 (λ k g. g)
offers_ok m (WHILE k c) h = ((h.1, true-and (eqb k k) _ (eq-eqb k k refl) refl), tt)
offers_ok m (START c t g) h = tt
offers_ok m CLOSE h = tt

-- A choice that goes is granted.
module _
    (m : Model) (t : Fit m) (s : State) (ws l : List Waiter) (z : ℕ → ℕ) (p : ℕ) (one : 1 ≤ z p) (h : Held m s l z (λ j. 0))
    (i : ℕ) (o : Offer) where
  pub goes_held :
      (a : Action) → stands_in m (process s p).frames ≡ some a → choice m s ws (offers a) ≡ goes i o
      → Held m (grant p o s) l z (λ j. 0)
  goes_held a e g =
      let c = chosen (OfferOk m a) s i o m ws (offers a) (offers_ok m a (fit_at m t (process s p).frames a e)) g in
      grant_held m p l z one a o s h e c.0.0 c.0.1 c.1

  goes-asks : choice m s ws (asks m s p) ≡ goes i o → Held m (grant p o s) l z (λ j. 0)
  goes-asks = asks_at m s ws p i o (Held m (grant p o s) l z (λ j. 0)) goes_held

-- Whoever is in hand enters the event list.
pub wakes_up :
    (m : Model) (s : State) {l : List Waiter} {z z' y : ℕ → ℕ} → Held m s l z y → (t p : ℕ) → s.clock ≤ t → t ≤ No.latest
    → ((k : ℕ) → once k p + z' k ≡ z k) → Held m (wake t p s) l z' y
unfolding wake
wakes_up m s h t p a b zs =
    is_entered h (record { time = t; priority = (process s p).priority; notice = wakes p })
    (record { not_before = a; not_late = b; tells = refl }) (let f = h.few_returns in omega arith) zs (λ i. omega arith)

-- THE WALK.
module _ (m : Model) (t : Fit m) where
  pub walk_one :
      (s : State) (ahead : List Waiter) (w : Waiter) (ws : List Waiter) (z : ℕ → ℕ) → Held m s (ahead ++ w ∷ ws) z (λ j. 0)
      → (i : ℕ) (o : Offer) → choice m s ahead (asks m s w.place) ≡ goes i o
      → Held m (wake s.clock w.place (grant w.place o s)) (ahead ++ ws) z (λ j. 0)
  walk_one s ahead w ws z h i o e =
      let p : ℕ = w.place in
      let y : ℕ → ℕ = λ k. once k p + z k in
      let one : 1 ≤ y p = let b = once_self p in omega arith in
      let a : Held m s (ahead ++ ws) y (λ j. 0) = unblocks ahead w ws h (λ k. refl) in
      let c = (still_grant p o s).same_clock in
      let d = h.clock_ok in
      wakes_up m (grant p o s) (goes-asks m t s ahead (ahead ++ ws) y p one a i o e) s.clock p (omega arith) (omega arith)
      (λ k. refl)

  pub walk_on_held :
      (ws : List Waiter) (s : State) (ahead : List Waiter) (z : ℕ → ℕ) → Held m s (ahead ++ ws) z (λ j. 0)
      → Held m (walk_on m s ahead ws).state (walk_on m s ahead ws).state.blocked z (λ j. 0)
  unfolding walk_on
  walk_on_held [] s ahead z h = rw append-nil at h
  walk_on_held (w ∷ ws) s ahead z h =
      choice_has (λ (n : Next). Held m n.state n.state.blocked z (λ j. 0)) (choice m s ahead (asks m s w.place))
      (λ r e. walk_on_held ws s (ahead ++ w ∷ []) z (rw append_assoc h))
      (λ i o e. walk_on_held ws (wake s.clock w.place (grant w.place o s)) ahead z (walk_one s ahead w ws z h i o e))

  pub walk_floor : (ws : List Waiter) (s : State) (ahead : List Waiter) → (walk_on m s ahead ws).state.floor ≡ s.floor
  unfolding walk_on wake
  walk_floor [] s ahead = refl
  walk_floor (w ∷ ws) s ahead =
      choice_has (λ (n : Next). n.state.floor ≡ s.floor) (choice m s ahead (asks m s w.place))
      (λ r e. walk_floor ws s (ahead ++ w ∷ []))
      (λ i o e.
      walk_floor ws (wake s.clock w.place (grant w.place o s)) ahead ∙ (still_grant w.place o s).same_floor)

  pub walk_sound : (s : State) → Sound m s → Sound m (walk m s).state
  unfolding walk
  walk_sound s h = rw (walk_floor s.blocked s []) (walk_on_held s.blocked s [] (λ k. on_floor k s.floor) h)
