-- The parts of a state that a step changes: values stay in their range, blocks stay chained, a process stays in order, and
-- amounts and slaves add up.
-- Assumes nothing.
use Prim.Native.Nat.{ℕ, zero, suc, ◌+◌, ◌-◌, ◌<◌}
use native.Mathlib.Omega.{arith}
use Rattle.std.specs.Prelude.{◌≡◌, Bool, ◌&&◌, eqb, leb, ltb, length, get_or, set, ℤ, negsuc, if◌then◌else◌}
use Rattle.std.proofs.Math.Path.{refl}
use Rattle.std.proofs.Common.{◌∙◌, leb-true, le-leb, eqb-true, eq-eqb, length-set}
use mathlib.Core.List.{List, [], ◌∷◌, map}
use Rattle.std.proofs.Math.Bool.{true, false}
use Rattle.std.proofs.Math.Option.{Option, none, some}
use Rattle.std.proofs.lemmas.Bool.{eqb-false}
use Rattle.std.proofs.Math.ListN.{get_elem?}
use Rattle.std.proofs.lemmas.List.{length-replicate}
use Rattle.std.proofs.Math.IntN.{pos}
use Rattle.std.specs.Int.Signed.{le_z}
use Rattle.semantics.specs.Words.{Outcome, ok, fails, any, keep, is_empty, more, fewer}
use Rattle.semantics.specs.Numbers as No
use Rattle.semantics.specs.Numbers.{lowest}
use Rattle.semantics.specs.Model.{Share, Model, block, body, Action, HOLD, PRIO, TRACE, SET, LSET, DO, PUTR, PUTB, PUTS, BECOME}
use Rattle.semantics.specs.Model.{REQ, TRY, WHILE, START, CLOSE}
use Rattle.semantics.specs.State.{State, Process, Frame, Slave, Event, Notice, wakes, returns_r, returns_b, process, newcomer}
use Rattle.semantics.specs.State.{with_priority, with_locals, with_held, with_slaves, with_frames, onward, past}
use Rattle.semantics.specs.Value.{Valued}
use Rattle.semantics.specs.Claim.{stands_in}
use Rattle.semantics.specs.Walk.{Next, quiet}
use Rattle.semantics.specs.Step.{is_return, handed, kept, freed, stay, comes_back, leave, ends, exhausted, act, moves}
use Rattle.semantics.specs.Sound.{enters, enters_at, named_there, chained}
use Rattle.promises.specs.Laws.{and-true, true-and, or_left, or_right, if_has, not_some}
use Rattle.promises.specs.Laws.{AllOf, all_map, all_both, all_set, all_at, all_replicate, Ordered, some_in}
use Rattle.promises.specs.Laws.{over, over-keep, over_same, only, once, once_apart, set_away, more_at, less_at}
use Rattle.promises.specs.Fit.{I32, SharesApart, ActFit, Fit}
use Rattle.promises.specs.Sound.{Below, al, slaved, owes, returning, Fine, SeedsOk}

-- VALUES. A value in its range, with seeds that are as they should.
pub record ValuedOk (m : Model) (v : Valued) : Type 0 where
  pub value_ok : I32 v.value
  pub seeds_ok : SeedsOk m v.seeds

-- A priority that is asked for, but never below the lowest.
pub priority_ok : (v : ℤ) → I32 v → I32 (if le_z lowest v then v else lowest) × Below lowest (if le_z lowest v then v else lowest)
priority_ok (pos a) h = (h, omega arith)
priority_ok (negsuc a) h =
    if_has (λ v. I32 v × Below lowest v) (leb a 9_999) (λ e. let b = leb-true a 9_999 e in (h, omega arith)) (λ e. omega arith)

-- BLOCKS. Where a process stands; going past an action; going into a block; one round less; leaving a block.
-- What holds of the actions of every block holds of the one where it stands.
pub at_stands : (P : ℕ → Action → Type 0) (m : Model) → ((b : ℕ) → AllOf (P b) (block m b)) → (fs : List Frame) (a : Action)
    → stands_in m fs ≡ some a → (b : ℕ) × P b a
at_stands P m h [] a e = not_some e
at_stands P m h (f ∷ fs) a e = (f.block, all_at (P f.block) (block m f.block) f.at a (h f.block) e)

pub fit_at : (m : Model) → Fit m → (fs : List Frame) (a : Action) → stands_in m fs ≡ some a → ActFit m a
fit_at m t fs a e = (at_stands (λ b. ActFit m) m t.acts fs a e).1

-- Whoever has the floor is at the end of a block or at an action.
pub moves_has : (P : Outcome Next → Type 0) (m : Model) (s : State) (p : ℕ)
    → (stands_in m (process s p).frames ≡ none → P (exhausted m s p (process s p).frames))
    → ((a : Action) → stands_in m (process s p).frames ≡ some a → P (act m s p a)) → P (moves m s p)
unfolding moves
moves_has P m s p f g = go (stands_in m (process s p).frames) refl
  where
    go : (x : Option Action) → stands_in m (process s p).frames ≡ x
        → P (elim x [ none ↦ exhausted m s p (process s p).frames | some a ↦ act m s p a ])
    go none e = f e
    go (some a) e = g a e

-- The end of a block is another round of it, the process's own end, or the block left; 20 where there is none.
pub exhausted_has : (P : Outcome Next → Type 0) (m : Model) (s : State) (p : ℕ) → P (fails No.STATE)
    → ((t : State) → P (ok (quiet t))) → P (ends m s p) → (fs : List Frame) → P (exhausted m s p fs)
unfolding exhausted
exhausted_has P m s p f g h [] = f
exhausted_has P m s p f g h (x ∷ fs) =
    if_has P (ltb 1 x.rounds) (λ e. g _) (λ e. if_has P (is_empty fs) (λ i. h) (λ i. g _))

pub onward-al : (fs : List Frame) → al (onward fs) ≡ al fs
unfolding onward
onward-al [] = refl
onward-al (f ∷ fs) = refl

not_once : {A : Type 0} (b : Bool) (r : ℕ) → 1 < r → b && eqb r 1 ≡ true → A
not_once b r l n = let v = eqb-true r 1 (and-true b _ n).1 in absurd (omega arith)

one_fewer : (a : Action) (b r : ℕ) → 1 < r → enters a b r ≡ true → enters a b (r - 1) ≡ true
one_fewer (HOLD e) b r l n = n
one_fewer (PRIO e) b r l n = n
one_fewer (TRACE e) b r l n = n
one_fewer (SET i e) b r l n = n
one_fewer (LSET i e) b r l n = n
one_fewer (DO k x) b r l n =
    let u = and-true (eqb x b) _ n in
    let v = leb-true r k (and-true (leb 1 r) _ u.1).1 in
    true-and (eqb x b) _ u.0 (true-and (leb 1 (r - 1)) _ (omega (arith, le-leb)) (omega (arith, le-leb)))
one_fewer (PUTR i x) b r l n = n
one_fewer (PUTB i x) b r l n = n
one_fewer (PUTS i x) b r l n = n
one_fewer (BECOME i) b r l n = n
one_fewer (REQ c) b r l n = n
one_fewer (TRY bs) b r l n = not_once (any (λ x. eqb x.block b) bs) r l n
one_fewer (WHILE k c) b r l n = not_once (eqb k b) r l n
one_fewer (START c d g) b r l n = n
one_fewer CLOSE b r l n = n

-- A block is entered, or gone round again, at its first action.
abbrev first : ℕ → ℕ → Frame
first b r = record { block = b; at = 0; rounds = r }

module _ (m : Model) where
  chain_first :
      (b r : ℕ) (fs : List Frame) → named_there m (first b r) fs ≡ true → chained m fs ≡ true → chained m (first b r ∷ fs) ≡ true
  chain_first b r fs n h =
      true-and (leb 0 (length (block m b))) _ (omega (arith, le-leb)) (true-and (named_there m (first b r) fs) _ n h)

  pub chain_onward : (fs : List Frame) (a : Action) → chained m fs ≡ true → stands_in m fs ≡ some a → chained m (onward fs) ≡ true
  unfolding onward
  chain_onward [] a h e = refl
  chain_onward (f ∷ fs) a h e =
      let b = and-true (leb f.at (length (block m f.block))) _ h in
      let i = some_in (block m f.block) f.at a e in
      true-and (leb (f.at + 1) (length (block m f.block))) _ (omega (arith, le-leb)) (on fs b.1)
    where
      on :
          (gs : List Frame) → named_there m f gs && chained m gs ≡ true
          → named_there m (record { block = f.block; at = f.at + 1; rounds = f.rounds }) gs && chained m gs ≡ true
      on [] h = h
      on (g ∷ gs) h = h

  pub chain_into :
      (fs : List Frame) (a : Action) (b r : ℕ) → chained m fs ≡ true → stands_in m fs ≡ some a → enters a b r ≡ true
      → chained m (first b r ∷ fs) ≡ true
  chain_into [] a b r h e n = not_some e
  chain_into (f ∷ fs) a b r h e n = chain_first b r (f ∷ fs) (rw e n) h

  pub chain_parts : (f : Frame) (fs : List Frame) → chained m (f ∷ fs) ≡ true → (named_there m f fs ≡ true) × (chained m fs ≡ true)
  chain_parts f fs h =
      and-true (named_there m f fs) _ (and-true (leb f.at (length (block m f.block))) _ h).1

  pub chain_again :
      (f : Frame) (fs : List Frame) → 1 < f.rounds → chained m (f ∷ fs) ≡ true
      → chained m (first f.block (f.rounds - 1) ∷ fs) ≡ true
  chain_again f fs l h =
      let a = chain_parts f fs h in chain_first f.block (f.rounds - 1) fs (again fs a.0) a.1
    where
      by : (x : Option Action) → enters_at x f.block f.rounds ≡ true → enters_at x f.block (f.rounds - 1) ≡ true
      by none n = n
      by (some a) n = one_fewer a f.block f.rounds l n

      again : (gs : List Frame) → named_there m f gs ≡ true → named_there m (first f.block (f.rounds - 1)) gs ≡ true
      again [] n = not_once (any (eqb f.block) m.classes) f.rounds l n
      again (g ∷ gs) n = by (get_elem? (block m g.block) g.at) n

  leave_has :
      (P : List Frame → Type 0) (fs : List Frame) → P fs → ((a : Action) → stands_in m fs ≡ some a → P (onward fs))
      → P (leave m fs)
  leave_has P fs h k = go (stands_in m fs) refl
    where
      go : (x : Option Action) → stands_in m fs ≡ x → P (elim x [ none ↦ fs | some a ↦ if comes_back a then fs else onward fs ])
      go none e = h
      go (some a) e = if_has P (comes_back a) (λ g. h) (λ g. k a e)

  pub leave_chain : (fs : List Frame) → chained m fs ≡ true → chained m (leave m fs) ≡ true
  leave_chain fs c = leave_has (λ l. chained m l ≡ true) fs c (λ a e. chain_onward fs a c e)

  pub leave-al : (f : Frame) (fs : List Frame) → al (leave m (f ∷ fs)) ≡ 1
  leave-al f fs = leave_has (λ l. al l ≡ 1) (f ∷ fs) refl (λ a e. onward-al (f ∷ fs))

-- A PROCESS that is in order stays so when one part of it changes.
module _ {m : Model} {n : ℕ} {q : Process} (h : Fine m n q) where
  pub fine_frames : (fs : List Frame) → chained m fs ≡ true → Fine m n (with_frames q fs)
  fine_frames fs e = search

  pub fine_past : (a : Action) → stands_in m q.frames ≡ some a → Fine m n (past q)
  unfolding past
  fine_past a e = fine_frames (onward q.frames) (chain_onward m q.frames a h.frames_ok e)

  pub fine_held : (l : List ℕ) → length l ≡ length q.held → Fine m n (with_held q l)
  fine_held l e = let a : length l ≡ length m.totals = e ∙ h.held_many in search

  pub fine_slaves : (l : List Slave) → AllOf (λ x. x.of < m.syncs) l → Fine m n (with_slaves q l)
  fine_slaves l e = search

  pub fine_local : (i : ℕ) (v : ℤ) → I32 v → Fine m n (with_locals q (set q.locals i v))
  fine_local i v e =
      let a : length (set q.locals i v) ≡ No.locals = length-set q.locals i v ∙ h.locals_many in
      let b = all_set I32 q.locals i v h.locals_ok e in
      search

  pub fine_priority : (v : ℤ) → I32 v → Below lowest v → Fine m n (with_priority q v)
  fine_priority v e l = search

-- A new process is in order.
pub new_fine :
    (m : Model) (n c : ℕ) (l : List ℕ) → c < length m.classes → length l ≡ length m.totals
    → Fine m (n + 1) (newcomer m (n + 1) c l)
new_fine m n c l i e =
    record {
      is_numbered = omega arith;
      is_given = omega arith;
      prio_low = omega arith;
      prio_high = omega arith;
      locals_many = length-replicate No.locals (pos 0);
      locals_ok = all_replicate I32 No.locals (pos 0) (omega arith);
      held_many = e;
      slaves_ok = tt;
      frames_ok =
          chain_first m (body m c) 1 [] (true-and (any (eqb (body m c)) m.classes) _ (class_in m.classes c i) refl) refl;
    }
  where
    class_in : (cs : List ℕ) (c : ℕ) → c < length cs → any (eqb (get_or cs c 0)) cs ≡ true
    class_in [] c h = absurd (omega arith)
    class_in (x ∷ xs) zero h = or_left (eqb x x) _ (eq-eqb x x refl)
    class_in (x ∷ xs) (suc c) h = or_right (eqb (get_or xs c 0) x) _ (class_in xs c (omega arith))

-- AMOUNTS.
pub zeros_at : (l : List ℕ) (j : ℕ) → get_or {A = ℕ} (map (λ x. 0) l) j 0 ≡ 0
zeros_at [] j = refl
zeros_at (x ∷ xs) zero = refl
zeros_at (x ∷ xs) (suc j) = zeros_at xs j

-- What a START hands over of resource j. Its resources are known; the giver has enough.
abbrev pub hand_over : ℕ → List Share → ℕ
hand_over j h = over (λ x. only j x.of x.amount) h

abbrev pub Known : List ℕ → List Share → Type 0
Known l h = AllOf (λ x. x.of < length l) h

abbrev pub Has : List ℕ → Share → Type 0
Has l x = leb x.amount (get_or l x.of 0) ≡ true

known_set : (l : List ℕ) (i a : ℕ) (h : List Share) → Known l h → Known (set l i a) h
known_set l i a h k = rw length-set k

pub handed-length : (h : List Share) (l : List ℕ) → length (handed h l) ≡ length l
unfolding handed
handed-length [] l = refl
handed-length (x ∷ xs) l = handed-length xs (more l x.of x.amount) ∙ length-set l x.of _

pub handed_at : (h : List Share) (l : List ℕ) (j : ℕ) → Known l h → get_or (handed h l) j 0 ≡ get_or l j 0 + hand_over j h
unfolding handed
handed_at [] l j k = omega arith
handed_at (x ∷ xs) l j k =
    let a = more_at l x.of x.amount j k.0 in
    let ih = handed_at xs (more l x.of x.amount) j (known_set l x.of _ xs k.1) in
    omega arith

pub kept_length : (h : List Share) (l : List ℕ) → length (kept h l) ≡ length l
unfolding kept
kept_length [] l = refl
kept_length (x ∷ xs) l = kept_length xs (fewer l x.of x.amount) ∙ length-set l x.of _

has_less : (l : List ℕ) (x : Share) (a : ℕ) (y : Share) → SharesApart x y → Has l y → Has (set l x.of a) y
has_less l x a y o h = rw (set_away l x.of y.of a 0 (once_apart x.of y.of (eqb-false x.of y.of o))) h

pub kept_at :
    (h : List Share) (l : List ℕ) (j : ℕ) → Known l h → Ordered SharesApart h → AllOf (Has l) h
    → get_or (kept h l) j 0 + hand_over j h ≡ get_or l j 0
unfolding kept
kept_at [] l j k a e = omega arith
kept_at (x ∷ xs) l j k a e =
    let b = less_at l x.of x.amount j k.0 (leb-true x.amount (get_or l x.of 0) e.0) in
    let d = all_map (λ y. SharesApart x y × Has l y) (Has (fewer l x.of x.amount))
    (λ y d. has_less l x (get_or l x.of 0 - x.amount) y d.0 d.1) xs
    (all_both (SharesApart x) (Has l) xs a.0 e.1) in
    let ih = kept_at xs (fewer l x.of x.amount) j (known_set l x.of _ xs k.1) a.1 d in
    omega arith

-- SLAVES freed, and those that stay.
module _ (i : ℕ) where
  pub freed-stay : (k n : ℕ) (xs : List Slave) → over (once k) (freed i n xs) + slaved k (stay i n xs) ≡ slaved k xs
  unfolding freed stay
  freed-stay k zero xs = omega arith
  freed-stay k (suc n) [] = omega arith
  freed-stay k (suc n) (x ∷ xs) = go (eqb x.of i) (freed-stay k n xs) (freed-stay k (suc n) xs)
    where
      go :
          (b : Bool) → over (once k) (freed i n xs) + slaved k (stay i n xs) ≡ slaved k xs
          → over (once k) (freed i (suc n) xs) + slaved k (stay i (suc n) xs) ≡ slaved k xs
          → over (once k) (elim b [ true ↦ x.place ∷ freed i n xs | false ↦ freed i (suc n) xs ])
          + slaved k (elim b [ true ↦ stay i n xs | false ↦ x ∷ stay i (suc n) xs ])
          ≡ slaved k (x ∷ xs)
      go true g h = omega arith
      go false g h = omega arith

  pub stay_all : (P : Slave → Type 0) (n : ℕ) (xs : List Slave) → AllOf P xs → AllOf P (stay i n xs)
  unfolding stay
  stay_all P zero xs h = h
  stay_all P (suc n) [] h = tt
  stay_all P (suc n) (x ∷ xs) h = go (eqb x.of i) (stay_all P n xs h.1) (stay_all P (suc n) xs h.1)
    where
      go :
          (b : Bool) → AllOf P (stay i n xs) → AllOf P (stay i (suc n) xs)
          → AllOf P (elim b [ true ↦ stay i n xs | false ↦ x ∷ stay i (suc n) xs ])
      go true f g = f
      go false f g = (h.0, g)

-- RETURNS that wait, as a step counts them.
pub returning_are : (es : List Event) → length (keep is_return es) ≡ returning es
returning_are es = over-keep is_return es ∙ over_same _ _ (λ e. one e.notice) es
  where
    one : (n : Notice) → (if (elim n [ wakes p ↦ false | returns_r i a g ↦ true | returns_b i a g ↦ true ]) then 1 else 0) ≡ owes n
    one (wakes p) = refl
    one (returns_r i a g) = refl
    one (returns_b i a g) = refl
