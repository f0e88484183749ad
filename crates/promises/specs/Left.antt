-- Demand 3: what is left of a run in steps, and that each step takes at least one from it, exactly one where there is no TRY.
-- Assumes nothing.
use Prim.Native.Nat.{ℕ, zero, suc, ◌+◌, ◌*◌, ◌-◌, ◌≤◌, ◌<◌}
use native.Mathlib.Omega.{arith}
use Rattle.std.proofs.Math.Nat.{suc-mul}
use Rattle.std.proofs.Common.{zero-mul, ◌∙◌, length-set}
use Rattle.std.specs.Prelude.{◌≡◌, Bool, true, false, not, eqb, ltb, get_or, set, drop, if◌then◌else◌}
use Rattle.std.proofs.Math.Path.{refl, ap}
use mathlib.Core.List.{List, [], ◌∷◌, ◌++◌, map}
use Rattle.std.proofs.Math.Option.{Option, none, some}
use borrow.Author.Tests.{ltb-true, ltb-false}
use Rattle.std.proofs.Math.IntN.{ℤ, nat_abs}
use Rattle.std.specs.Int.Signed.{le_z}
use Rattle.std.proofs.Math.ListN.{length, length-append}
use Rattle.semantics.specs.Words.{Outcome, ok, fails, is_empty, all, largest, more, fewer}
use Rattle.semantics.specs.Numbers as No
use Rattle.semantics.specs.Numbers.{lowest, of_returns}
use Rattle.semantics.specs.Model.{Action, HOLD, PRIO, TRACE, SET, LSET, DO, PUTR, PUTB, PUTS, BECOME, REQ, TRY, WHILE, START}
use Rattle.semantics.specs.Model.{CLOSE, Expr, Item, get, condition, resource, bin, sync, Claim, Branch, Share, Model, block}
use Rattle.semantics.specs.Model.{body, kind_of}
use Rattle.semantics.specs.State.{State, Process, Frame, Waiter, Event, Notice, wakes, returns_r, returns_b, Floor, empty, held_by}
use Rattle.semantics.specs.State.{nobody, process, put, free_place, living, at_clock, with_last, with_globals, with_free}
use Rattle.semantics.specs.State.{with_seeds, with_bins, with_waiting, with_floor, with_events, with_priority}
use Rattle.semantics.specs.State.{with_locals, with_held}
use Rattle.semantics.specs.State.{with_slaves, with_frames, sooner, enter, wake, higher, join, onward, past, into, newcomer}
use Rattle.semantics.specs.State.{begin}
use Rattle.semantics.specs.Value.{eval}
use Rattle.semantics.specs.Claim.{take_item, take_all, Offer, Then, pass, enter_block, offers, stands_in, asks, goes, choice}
use Rattle.semantics.specs.Claim.{follow, grant}
use Rattle.semantics.specs.Walk.{Next, quiet, walk_on, walk}
use Rattle.semantics.specs.Step.{kept, handed, freed, stay, free_all, comes_back, leave, ends, exhausted, hold}
use Rattle.semantics.specs.Step.{prio, set_global, set_local, do_times, notify, putr, putb, become, puts, start, in_front, request}
use Rattle.semantics.specs.Step.{trace, close, act, moves, occurs, next, step}
use Rattle.semantics.specs.Bound.{weigh, weight}
use Rattle.promises.specs.Laws.{no_way, and-true, if_has, not_some, Good, good, stopped, good_bind, good_need, good_map}
use Rattle.promises.specs.Laws.{AllOf, all_map, all_get, all_hold, drop-some, drop-none, drop_next, over, over-insert}
use Rattle.promises.specs.Laws.{over-set, length-insert, over_still}
use Rattle.promises.specs.Fit.{GoesForward, Forward}
use Rattle.promises.specs.Sound.{al, owes, returning, Sound}
use Rattle.promises.specs.Keep.{al_none, alive_in, living_are, FreeAt, some_free}
use Rattle.promises.specs.Parts.{at_stands, moves_has, onward-al}
use Rattle.promises.specs.Takes.{still_grant, take_frames, chosen, asks_at, choice_has}
use Rattle.promises.specs.Weight.{weight_is}

-- x is at most y, and is y where N holds.
pub record AtMost (N : Type 0) (x y : ℕ) : Type 0 where
  pub le : x ≤ y
  pub eq : N → x ≡ y

pub exactly : {N : Type 0} {x y : ℕ} → x ≡ y → AtMost N x y
exactly e = record { le = omega arith; eq = λ n. e }

-- The same distance elsewhere, and two together.
pub likewise : {N : Type 0} {x y v w : ℕ} → AtMost N x y → v + y ≡ x + w → AtMost N v w
likewise a e = record { le = let h = a.le in omega arith; eq = λ n. let h = a.eq n in omega arith }

pub together : {N : Type 0} {x y v w : ℕ} → AtMost N x y → AtMost N v w → AtMost N (x + v) (y + w)
together a b =
    record { le = let h = a.le in let g = b.le in omega arith; eq = λ n. let h = a.eq n in let g = b.eq n in omega arith }

-- Good by computation, for an outcome that computes to its form.
abbrev ValueHas : {A : Type 0} → (A → Type 0) → Outcome A → Type 0
ValueHas P (ok a) = P a
ValueHas P (fails n) = Unit {0}

computed : {A : Type 0} {P : A → Type 0} {o : Outcome A} → ValueHas P o → Good P o
computed {o = ok a} h = good h
computed {o = fails n} h = stopped

-- NO TRY, as a test and as what it tells of every block.
abbrev pub not_try : Action → Bool
not_try a = not (eqb (kind_of a) (kind_of (TRY [])))

abbrev pub no_try : Model → Bool
no_try m = all (all not_try) m.blocks

abbrev NotTry : Action → Type 0
NotTry a = not_try a ≡ true

pub record NoTry (m : Model) : Type 0 where
  pub none_is : (b : ℕ) → AllOf NotTry (block m b)

pub no_try_lem : (m : Model) → no_try m ≡ true → NoTry m
no_try_lem m e =
    let each = all_map _ (AllOf NotTry) (λ xs h. all_hold not_try xs h) m.blocks (all_hold (all not_try) m.blocks e) in
    record { none_is = λ b. all_get (AllOf NotTry) m.blocks b [] each tt }

-- WHAT IS LEFT of a frame from action i on: this round's actions and its end, and the rounds after it.
abbrev rest_from : Model → ℕ → ℕ → ℕ
rest_from m b i = over (weigh m (weight m)) (drop i (block m b))

abbrev frame_left : Model → Frame → ℕ → ℕ
frame_left m f i = rest_from m f.block i + 1 + (f.rounds - 1) * (weight m f.block + 1)

-- The frames outside the innermost go on behind the action that named the next.
abbrev outer_left : Model → List Frame → ℕ
outer_left m [] = 0
outer_left m (f ∷ fs) = frame_left m f (f.at + 1) + outer_left m fs

abbrev pub frames_left : Model → List Frame → ℕ
frames_left m [] = 0
frames_left m (f ∷ fs) = frame_left m f f.at + outer_left m fs

abbrev pub all_left : Model → List Process → ℕ
all_left m ps = over (λ q. frames_left m q.frames) ps

unfoldable pub total : Model → State → ℕ
total m s = all_left m s.processes + returning s.events

-- What k steps from s to t take from it, with nothing subtracted. A blocked process has paid for the REQ or TRY where it stands.
abbrev pub Fell : Model → State → ℕ → State → Type 0
Fell m s k t = AtMost (NoTry m) (total m t + length s.blocked + k) (total m s + length t.blocked)

abbrev pub Falls : Model → State → Next → Type 0
Falls m s n = Fell m s 1 n.state

all_left-set : (m : Model) (ps : List Process) (p : ℕ) (r : Process) → p < length ps
    → all_left m (set ps p r) + frames_left m (get_or ps p nobody).frames ≡ all_left m ps + frames_left m r.frames
all_left-set m ps p r h = over-set (λ q. frames_left m q.frames) ps p r nobody h

wake-total : (m : Model) (c p : ℕ) (s : State) → total m (wake c p s) ≡ total m s
unfolding wake enter total
wake-total m c p s = rw over-insert (omega arith)

-- A new process adds the weight of its class.
pub begin-total : (m : Model) → Forward m → (c d : ℕ) (h : List ℕ) (s : State) → FreeAt s.processes (free_place s)
    → total m (begin m c d h s) ≡ total m s + (weight m (body m c) + 1)
unfolding begin total
begin-total m t c d h s l =
    let i = free_place s in
    let new = newcomer m (s.last + 1) c h in
    let x = all_left-set m s.processes i new l.0 in
    let z = ap (frames_left m) (al_none (process s i).frames l.1) in
    let w = weight_is m t (body m c) in
    let y = wake-total m d i (put i new (with_last s (s.last + 1))) in
    omega arith

pub begin_blocked : (m : Model) (c d : ℕ) (h : List ℕ) (s : State) → length (begin m c d h s).blocked ≡ length s.blocked
unfolding begin wake
begin_blocked m c d h s = refl

-- FRAMES.
onward_left : (m : Model) (fs : List Frame) → frames_left m (onward fs) ≡ outer_left m fs
unfolding onward
onward_left m [] = refl
onward_left m (f ∷ fs) = refl

stands_alive : (m : Model) (fs : List Frame) (a : Action) → stands_in m fs ≡ some a → 1 ≤ al fs
stands_alive m [] a e = not_some e
stands_alive m (f ∷ fs) a e = omega arith

stands_left : (m : Model) (fs : List Frame) (a : Action) → stands_in m fs ≡ some a
    → frames_left m fs ≡ weigh m (weight m) a + outer_left m fs
stands_left m [] a e = not_some e
stands_left m (f ∷ fs) a e = let d = drop-some (block m f.block) f.at a e in rw d (omega arith)

-- The process in place p, which stands at the action a, goes on as r.
module _ (m : Model) (s : State) (p : ℕ) (a : Action) (e : stands_in m (process s p).frames ≡ some a) where
  is_in : p < length s.processes
  is_in = alive_in s.processes p (stands_alive m (process s p).frames a e)

  spend : (r : Process)
      → all_left m (set s.processes p r) + (weigh m (weight m) a + outer_left m (process s p).frames)
      ≡ all_left m s.processes + frames_left m r.frames
  spend r =
      let x = all_left-set m s.processes p r is_in in
      let y = stands_left m (process s p).frames a e in
      omega arith

  -- Where fewer live than there are places, one is free also after that, if r lives.
  put_free : length s.processes ≡ No.places → (r : Process) → al r.frames ≡ al (process s p).frames
      → living s < No.places → FreeAt (put p r s).processes (free_place (put p r s))
  put_free l r g h =
      let x = over_still (λ q. al q.frames) s.processes p r nobody g in
      let y = living_are s in
      let z = length-set s.processes p r in
      some_free (set s.processes p r) (omega arith)

-- CLAIMS. Taking one changes no frames.
take_left : (m : Model) (p : ℕ) (c : Claim) (s : State) → all_left m (take_all p c s).processes ≡ all_left m s.processes
unfolding take_all take_item
take_left m p [] s = refl
take_left m p (i ∷ is) s = take_left m p is (take_item p i s) ∙ of_item i
  where
    of_item : (i : Item) → all_left m (take_item p i s).processes ≡ all_left m s.processes
    of_item (get resource i n) = over_still (λ q. frames_left m q.frames) s.processes p _ nobody refl
    of_item (get bin i n) = refl
    of_item (get sync i n) = over_still (λ q. frames_left m q.frames) s.processes p _ nobody refl
    of_item (condition i r v) = refl

-- What an offer leads to weighs less than the action that makes it.
abbrev then_left : Model → Then → ℕ
then_left m pass = 0
then_left m (enter_block b) = weight m b + 1

abbrev Fits : Model → Action → Offer → Type 0
Fits m a o = AtMost (NotTry a) (then_left m o.and_then + 1) (weigh m (weight m) a)

branches_fit : (m : Model) (bs : List Branch) (n : ℕ) → largest (map (λ b. weight m b.block + 1) bs) ≤ n
    → AllOf (λ o. AtMost (false ≡ true) (then_left m o.and_then + 1) (1 + n))
    (map {B = Offer} (λ b. record { claim = b.claim; and_then = enter_block b.block }) bs)
branches_fit m [] n h = tt
branches_fit m (b ∷ bs) n h = (record { le = omega arith; eq = no_way }, branches_fit m bs n (omega arith))

offers_fit : (m : Model) (b : ℕ) (a : Action) → GoesForward m b a → AllOf (Fits m a) (offers a)
unfolding weigh
offers_fit m b (HOLD e) h = tt
offers_fit m b (PRIO e) h = tt
offers_fit m b (TRACE e) h = tt
offers_fit m b (SET i e) h = tt
offers_fit m b (LSET i e) h = tt
offers_fit m b (DO n k) h = tt
offers_fit m b (PUTR i n) h = tt
offers_fit m b (PUTB i n) h = tt
offers_fit m b (PUTS i n) h = tt
offers_fit m b (BECOME i) h = tt
offers_fit m b (REQ c) h = (exactly refl, tt)
offers_fit m b (TRY bs) h = branches_fit m bs _ (omega arith)
offers_fit m b (WHILE k c) h = absurd h
offers_fit m b (START c t g) h = tt
offers_fit m b CLOSE h = tt

module _ (m : Model) (t : Forward m) where
  follow_left : (f : Then) (q : Process) → frames_left m (follow f q).frames ≡ then_left m f + outer_left m q.frames
  unfolding past into
  follow_left pass q = let h = onward_left m q.frames in omega arith
  follow_left (enter_block b) q = rw (weight_is m t b) (omega arith)

  -- A process that stands at a and takes one of a's offers has at least one step less left.
  grant_less : (s : State) (ws : List Waiter) (p : ℕ) (a : Action) (i : ℕ) (o : Offer)
      → stands_in m (process s p).frames ≡ some a → choice m s ws (offers a) ≡ goes i o
      → AtMost (NoTry m) (all_left m (grant p o s).processes + 1) (all_left m s.processes)
  unfolding grant
  grant_less s ws p a i o e c =
      let u : State = take_all p o.claim s in
      let k = take_frames p o.claim s in
      let x = spend m u p a (ap (stands_in m) k ∙ e) (follow o.and_then (process u p)) in
      let j = ap (outer_left m) k in
      let y = follow_left o.and_then (process u p) in
      let z = take_left m p o.claim s in
      likewise fit (omega arith)
    where
      fit : AtMost (NoTry m) (then_left m o.and_then + 1) (weigh m (weight m) a)
      fit =
          let f = at_stands (GoesForward m) m t.forward (process s p).frames a e in
          let h = (chosen (Fits m a) s i o m ws (offers a) (offers_fit m f.0 a f.1) c).0 in
          record { le = h.le; eq = λ n. h.eq (at_stands (λ b. NotTry) m n.none_is (process s p).frames a e).1 }

  asks_less : (s : State) (ws : List Waiter) (p : ℕ) (i : ℕ) (o : Offer) → choice m s ws (asks m s p) ≡ goes i o
      → AtMost (NoTry m) (all_left m (grant p o s).processes + 1) (all_left m s.processes)
  asks_less s ws p i o = asks_at m s ws p i o _ (λ a e g. grant_less s ws p a i o e g)

  -- The walk pays for those that it takes off the blocked list.
  walk_on_less : (ws : List Waiter) (s : State) (ahead : List Waiter)
      → AtMost (NoTry m) (total m (walk_on m s ahead ws).state + (length ahead + length ws))
      (total m s + length (walk_on m s ahead ws).state.blocked)
  unfolding walk_on total
  walk_on_less [] s ahead = exactly (omega arith)
  walk_on_less (w ∷ ws) s ahead =
      choice_has
      (λ (n : Next).
      AtMost (NoTry m) (total m n.state + (length ahead + suc (length ws))) (total m s + length n.state.blocked))
      (choice m s ahead (asks m s w.place))
      (λ r e. let l = length-append ahead (w ∷ []) in likewise (walk_on_less ws s (ahead ++ w ∷ [])) (omega arith))
      (λ i o e.
      let u : State = grant w.place o s in
      let y = ap returning (still_grant w.place o s).same_events in
      let v = wake-total m s.clock w.place u in
      likewise (together (walk_on_less ws (wake s.clock w.place u) ahead) (asks_less s ahead w.place i o e))
      (omega arith))

  walk_less : (s : State)
      → AtMost (NoTry m) (total m (walk m s).state + length s.blocked) (total m s + length (walk m s).state.blocked)
  unfolding walk
  walk_less s = likewise (walk_on_less s.blocked s []) (omega arith)

-- Slaves set free owe nothing.
module _ (m : Model) where
  free_all-total : (i : ℕ) (rs : List ℕ) (u : State) → total m (free_all i rs u).state ≡ total m u
  unfolding free_all
  free_all-total i [] u = refl
  free_all-total i (r ∷ rs) u = free_all-total i rs (wake u.clock r u) ∙ wake-total m u.clock r u

  free_all_blocked : (i : ℕ) (rs : List ℕ) (u : State) → (free_all i rs u).state.blocked ≡ u.blocked
  unfolding free_all wake
  free_all_blocked i [] u = refl
  free_all_blocked i (r ∷ rs) u = free_all_blocked i rs (wake u.clock r u)

-- ACTIONS of the process in place p.
module _ (m : Model) (t : Forward m) (s : State) (p : ℕ) where
  abbrev At : Action → Type 0
  At a = stands_in m (process s p).frames ≡ some a

  -- It goes past the action.
  passes : (a : Action) → At a → (r : Process) → r.frames ≡ onward (process s p).frames
      → total m (put p r s) + weigh m (weight m) a ≡ total m s
  unfolding total
  passes a e r g =
      let x = spend m s p a e r in
      let y = ap (frames_left m) g ∙ onward_left m (process s p).frames in
      omega arith

  hold_falls : (x : Expr) → At (HOLD x) → Good (Falls m s) (hold m s p x)
  unfolding hold past total weigh
  hold_falls x e =
      let k = passes (HOLD x) e (past (process s p)) refl in
      good_bind (eval m s (process s p) x s.seeds) λ v.
      good_need _ _ λ h₁.
      good_need _ _ λ h₂.
      let u : State = with_seeds (with_floor (put p (past (process s p)) s) empty) v.seeds in
      let w = wake-total m (s.clock + nat_abs v.value) p u in
      good (exactly (omega arith))

  prio_falls : (x : Expr) → At (PRIO x) → Good (Falls m s) (prio m s p x)
  unfolding prio past weigh total
  prio_falls x e =
      good_bind (eval m s (process s p) x s.seeds) λ v.
      let w : ℤ = if le_z lowest v.value then v.value else lowest in
      let k = passes (PRIO x) e (past (with_priority (process s p) w)) refl in
      good (exactly (omega arith))

  trace_falls : (x : Expr) → At (TRACE x) → Good (Falls m s) (trace m s p x)
  unfolding trace past weigh total
  trace_falls x e =
      let k = passes (TRACE x) e (past (process s p)) refl in
      good_bind (eval m s (process s p) x s.seeds) λ v. good (exactly (omega arith))

  set_local_falls : (i : ℕ) (x : Expr) → At (LSET i x) → Good (Falls m s) (set_local m s p i x)
  unfolding set_local past weigh total
  set_local_falls i x e =
      good_bind (eval m s (process s p) x s.seeds) λ v.
      let k = passes (LSET i x) e (past (with_locals (process s p) (set (process s p).locals i v.value))) refl in
      good (exactly (omega arith))

  set_global_falls : (i : ℕ) (x : Expr) → At (SET i x) → Good (Falls m s) (set_global m s p i x)
  unfolding set_global past weigh total
  set_global_falls i x e =
      let k = passes (SET i x) e (past (process s p)) refl in
      good_bind (eval m s (process s p) x s.seeds) λ v.
      let u : State = with_seeds (put p (past (process s p)) s) v.seeds in
      good (likewise (walk_less m t (with_globals u (set s.globals i v.value))) (omega arith))

  become_falls : (i : ℕ) → At (BECOME i) → Good (Falls m s) (become m s p i)
  unfolding become past weigh total
  become_falls i e =
      let k = passes (BECOME i) e (past (process s p)) refl in
      let u : State = with_floor (put p (past (process s p)) s) empty in
      let w : State = with_waiting u (set u.waiting i (join u p (get_or u.waiting i []))) in
      computed (likewise (walk_less m t w) (omega arith))

  -- A return notice is a step more to come: PUTR and PUTB weigh 2.
  notify_falls : (a : Action) → At a → weigh m (weight m) a ≡ 2 → (n : Notice) → owes n ≡ 1 → (r : Process)
      → r.frames ≡ (process s p).frames → Good (Falls m s) (notify m s p n r)
  unfolding notify past enter total
  notify_falls a e w n o r g =
      let k = passes a e (past r) (ap onward g) in
      good_need _ _ λ h.
      let x : Event = record { time = s.clock; priority = of_returns; notice = n } in
      let y = over-insert (λ e. owes e.notice) sooner x s.events in
      good (exactly (omega arith))

  do_falls : (n b : ℕ) → At (DO n b) → Good (Falls m s) (do_times m s p n b)
  unfolding do_times past into weigh total
  do_falls zero b e = let k = passes (DO zero b) e (past (process s p)) refl in computed (exactly (omega arith))
  do_falls (suc n) b e =
      let k = spend m s p (DO (suc n) b) e (into (suc n) b (process s p)) in
      let w = weight_is m t b in
      let x = suc-mul n (weight m b + 1) in
      let y : (suc n - 1) * (weight m b + 1) ≡ n * (weight m b + 1) = ap (λ j. j * (weight m b + 1)) (omega arith) in
      computed (exactly (omega arith))

  close_falls : At CLOSE → Good (Falls m s) (close m s p)
  unfolding close past weigh total
  close_falls e = let k = passes CLOSE e (past (process s p)) refl in computed (exactly (omega arith))

  puts_falls : (i n : ℕ) → At (PUTS i n) → Good (Falls m s) (puts m s p i n)
  unfolding puts past weigh
  puts_falls i n e =
      good_need _ _ λ h.
      let r : Process = past (with_slaves (process s p) (stay i n (process s p).slaves)) in
      let k = passes (PUTS i n) e r refl in
      let x = free_all-total m i (freed i n (process s p).slaves) (put p r s) in
      let y = ap length (free_all_blocked m i (freed i n (process s p).slaves) (put p r s)) in
      good (exactly (omega arith))

  -- One that joins the blocked list has paid, and stands where it stood.
  request_falls : (a : Action) → At a → Good (Falls m s) (request m s p a)
  unfolding request join total
  request_falls a e =
      let ws : List Waiter = in_front m s p in
      choice_has (λ (o : Outcome Next). Good (Falls m s) o) (choice m s ws (offers a))
      (λ r c.
      let w : Waiter = record { priority = (process s p).priority; place = p } in
      let l = length-insert higher w s.blocked in
      good (exactly (omega arith)))
      (λ i o c.
      let y = still_grant p o s in
      let y₁ = ap returning y.same_events in
      let y₂ = ap length y.same_blocked in
      good (likewise (grant_less m t s ws p a i o e c) (omega arith)))

  -- START: fewer live than there are places, so the new process finds one, also after its giver was put back.
  start_falls : length s.processes ≡ No.places → (c d : ℕ) (h : List Share) → At (START c d h)
      → Good (Falls m s) (start m s p c d h)
  unfolding start past weigh
  start_falls l c d h e =
      let r : Process = past (with_held (process s p) (kept h (process s p).held)) in
      let k = passes (START c d h) e r refl in
      good_need _ _ λ h₁.
      good_need _ _ λ h₂.
      good_need _ _ λ h₃.
      let v = ltb-true (living s) No.places (and-true _ _ h₃).0 in
      let g = put_free m s p (START c d h) e l r (onward-al (process s p).frames) v in
      let x = begin-total m t c (s.clock + d) (handed h (map (λ n. 0) (process s p).held)) (put p r s) g in
      let y = begin_blocked m c (s.clock + d) (handed h (map (λ n. 0) (process s p).held)) (put p r s) in
      good (exactly (omega arith))

  act_falls : length s.processes ≡ No.places → (a : Action) → At a → Good (Falls m s) (act m s p a)
  unfolding act putr putb weigh
  act_falls l (HOLD x) e = hold_falls x e
  act_falls l (PRIO x) e = prio_falls x e
  act_falls l (TRACE x) e = trace_falls x e
  act_falls l (SET i x) e = set_global_falls i x e
  act_falls l (LSET i x) e = set_local_falls i x e
  act_falls l (DO n b) e = do_falls n b e
  act_falls l (PUTR i n) e =
      good_need _ _ λ h.
      notify_falls (PUTR i n) e refl (returns_r i n (process s p).number) refl
      (with_held (process s p) (fewer (process s p).held i n)) refl
  act_falls l (PUTB i n) e =
      notify_falls (PUTB i n) e refl (returns_b i n (process s p).number) refl (process s p) refl
  act_falls l (PUTS i n) e = puts_falls i n e
  act_falls l (BECOME i) e = become_falls i e
  act_falls l (REQ c) e = request_falls (REQ c) e
  act_falls l (TRY bs) e = request_falls (TRY bs) e
  act_falls l (WHILE b c) e = absurd (at_stands (GoesForward m) m t.forward (process s p).frames (WHILE b c) e).1
  act_falls l (START c d h) e = start_falls l c d h e
  act_falls l CLOSE e = close_falls e

-- THE END OF A BLOCK.
none_left : (m : Model) (f : Frame) (fs : List Frame) → stands_in m (f ∷ fs) ≡ none
    → frames_left m (f ∷ fs) ≡ 1 + (f.rounds - 1) * (weight m f.block + 1) + outer_left m fs
none_left m f fs e = rw (drop-none (block m f.block) f.at e) (omega arith)

no_rounds : (r x : ℕ) → r ≤ 1 → (r - 1) * x ≡ 0
no_rounds r x h = let a : r - 1 ≡ 0 = omega arith in rw (a, zero-mul)

more_rounds : (r x : ℕ) → 1 < r → (r - 1) * x ≡ (r - 1 - 1) * x + x
more_rounds zero x h = absurd (omega arith)
more_rounds (suc zero) x h = absurd (omega arith)
more_rounds (suc (suc r)) x h =
    let a₁ : (suc (suc r) - 1) * x ≡ suc r * x = ap (λ j. j * x) (omega arith) in
    let a₂ : (suc (suc r) - 1 - 1) * x ≡ r * x = ap (λ j. j * x) (omega arith) in
    let a₃ = suc-mul r x in
    omega arith

not_back : (m : Model) (b : ℕ) (a : Action) → GoesForward m b a → comes_back a ≡ false
not_back m b (HOLD e) h = refl
not_back m b (PRIO e) h = refl
not_back m b (TRACE e) h = refl
not_back m b (SET i e) h = refl
not_back m b (LSET i e) h = refl
not_back m b (DO n k) h = refl
not_back m b (PUTR i n) h = refl
not_back m b (PUTB i n) h = refl
not_back m b (PUTS i n) h = refl
not_back m b (BECOME i) h = refl
not_back m b (REQ c) h = refl
not_back m b (TRY bs) h = refl
not_back m b (WHILE k c) h = absurd h
not_back m b (START c t g) h = refl
not_back m b CLOSE h = refl

leave_left : (m : Model) → Forward m → (fs : List Frame) → frames_left m (leave m fs) ≡ outer_left m fs
leave_left m t [] = refl
leave_left m t (f ∷ fs) = go (stands_in m (f ∷ fs)) refl
  where
    go : (x : Option Action) → stands_in m (f ∷ fs) ≡ x
        → frames_left m (elim x [ none ↦ f ∷ fs | some a ↦ if comes_back a then f ∷ fs else onward (f ∷ fs) ])
        ≡ outer_left m (f ∷ fs)
    go none e = let k = none_left m f fs e in rw (drop_next (block m f.block) f.at e) (omega arith)
    go (some a) e =
        let g = at_stands (GoesForward m) m t.forward (f ∷ fs) a e in
        rw (not_back m g.0 a g.1) (let k = onward_left m (f ∷ fs) in omega arith)

module _ (m : Model) (t : Forward m) (s : State) (p : ℕ) where
  -- The process in place p, in the frames f ∷ fs, goes on as r.
  goes_on : (f : Frame) (fs : List Frame) → (process s p).frames ≡ f ∷ fs → (r : Process)
      → all_left m (set s.processes p r) + frames_left m (f ∷ fs) ≡ all_left m s.processes + frames_left m r.frames
  goes_on f fs e r =
      let l = ap al e in
      let x = all_left-set m s.processes p r (alive_in s.processes p (omega arith)) in
      let y = ap (frames_left m) e in
      omega arith

  exhausted_falls : (fs : List Frame) → (process s p).frames ≡ fs → stands_in m fs ≡ none
      → Good (Falls m s) (exhausted m s p fs)
  unfolding exhausted total
  exhausted_falls [] e n = stopped
  exhausted_falls (f ∷ fs) e n =
      let k = none_left m f fs n in
      if_has (λ (o : Outcome Next). Good (Falls m s) o) (ltb 1 f.rounds)
      (λ h.
      let x = goes_on f fs e (with_frames (process s p) (record { block = f.block; at = 0; rounds = f.rounds - 1 } ∷ fs)) in
      let y = more_rounds f.rounds (weight m f.block + 1) (ltb-true 1 f.rounds h) in
      let w = weight_is m t f.block in
      good (exactly (omega arith)))
      (λ h.
      let z = no_rounds f.rounds (weight m f.block + 1) (ltb-false 1 f.rounds h) in
      leaving fs e (omega arith))
    where
      leaving : (gs : List Frame) → (process s p).frames ≡ f ∷ gs → frames_left m (f ∷ gs) ≡ 1 + outer_left m gs
          → Good (Falls m s)
          (if is_empty gs then ends m s p else ok (quiet (put p (with_frames (process s p) (leave m gs)) s)))
      leaving [] g l = let k = goes_on f [] g nobody in good_need _ _ λ h. good (exactly (omega arith))
      leaving (x ∷ xs) g l =
          let k = goes_on f (x ∷ xs) g (with_frames (process s p) (leave m (x ∷ xs))) in
          let y = leave_left m t (x ∷ xs) in
          computed (exactly (omega arith))

  moves_falls : length s.processes ≡ No.places → Good (Falls m s) (moves m s p)
  moves_falls l =
      moves_has (λ (o : Outcome Next). Good (Falls m s) o) m s p (λ e. exhausted_falls (process s p).frames refl e)
      (λ a e. act_falls m t s p l a e)

-- A STEP. A return that occurs was still to come: it owes a step.
module _ (m : Model) (t : Forward m) where
  abbrev Pays : State → ℕ → Next → Type 0
  Pays s n x = AtMost (NoTry m) (total m x.state + length s.blocked + 1) (total m s + n + length x.state.blocked)

  occurs_pays : (s : State) → length s.processes ≡ No.places → (n : Notice) → Good (Pays s (owes n)) (occurs m s n)
  unfolding occurs total
  occurs_pays s l (wakes p) =
      let u : State = with_floor s (held_by p) in
      good_map (Falls m u) (Pays s 0) (λ x h. likewise h (omega arith)) _ (moves_falls m t u p l)
  occurs_pays s l (returns_r i n g) = computed (likewise (walk_less m t (with_free s (more s.free i n))) (omega arith))
  occurs_pays s l (returns_b i n g) =
      good_need _ _ λ h. good (likewise (walk_less m t (with_bins s (more s.bins i n))) (omega arith))

  next_falls : (s : State) → length s.processes ≡ No.places → (es : List Event) → s.events ≡ es
      → Good (Falls m s) (next m s es)
  unfolding next total
  next_falls s l [] e = stopped
  next_falls s l (x ∷ xs) e =
      let u : State = with_events (at_clock s x.time) xs in
      let r = ap returning e in
      good_map (Pays u (owes x.notice)) (Falls m s) (λ y h. likewise h (omega arith)) _ (occurs_pays u l x.notice)

pub step_falls : (m : Model) → Forward m → (s : State) → Sound m s → Good (Falls m s) (step m s)
unfolding step
step_falls m t s h = go s.floor
  where
    go : (f : Floor) → Good (Falls m s) (elim f [ held_by p ↦ moves m s p | empty ↦ next m s s.events ])
    go (held_by p) = moves_falls m t s p h.places_64
    go empty = next_falls m t s h.places_64 s.events refl
