-- What the record of an action tells of the blocks that it enters, and whether one asks there. Assumes nothing.
use Prim.Native.Nat.{ℕ, zero, suc, ◌+◌, ◌-◌, ◌≤◌, ◌<◌}
use native.Mathlib.Omega.{arith}
use mathlib.Core.Path.{◌≡◌, refl, sym, ◌∙◌, ap, subst}
use mathlib.Core.List.{List, [], ◌∷◌, map}
use mathlib.Core.Bool.{Bool, true, false, ◌&&◌, ◌||◌}
use mathlib.Core.Option.{Option, none, some}
use lib.Dec.{eqb, leb}
use lib.ListN.{length, get_or, drop, get_elem?, length-take, length-drop, length-map}
use lib.Seq.{get_or-take, get_or-drop}
use Rattle.semantics.specs.Words.{any}
use Rattle.semantics.specs.Kinds as K
use Rattle.semantics.specs.Model.{Branch, Action, HOLD, PRIO, TRACE, SET, LSET, DO, PUTR, PUTB, PUTS, BECOME, REQ, TRY, WHILE}
use Rattle.semantics.specs.Model.{START, CLOSE, kind_of}
use Rattle.semantics.specs.Bytes.{u16}
use Rattle.semantics.specs.Claim.{Offer, enter_block, offers}
use Rattle.semantics.specs.Sound.{enters, enters_at, asks_at}
use Rattle.promises.specs.Laws.{no_way}
use Rattle.base_numbers.specs.Limit as Limit
use Rattle.base_numbers.specs.Map as Map
use Rattle.file_index.specs.Ties.{kind_at, body_at, ActionAt}
use Rattle.file_actions.proofs.ByKind.{kind_of_lem, is_do}
use Rattle.file_actions.specs.Bodies.{Numbers}
use Rattle.file_actions.proofs.Bodies.{told}
use Rattle.file_map.specs.Map.{claim_at, OffersAt}
use Rattle.row_sound.specs.Chain.{among, branch_enters, Branching, ActsAt, At, Standing}

-- ANY index of a list.
among_same : (f g : ℕ → Bool) (n : ℕ) → ((k : ℕ) → k < n → f k ≡ g k) → among n f ≡ among n g
unfolding among
among_same f g zero h = refl
among_same f g (suc n) h =
    ap (λ b. b || among n f) (h n (omega arith)) ∙ ap (λ b. g n || b) (among_same f g n (λ k l. h k (omega arith)))

shift : (h : ℕ → Bool) (n : ℕ) → among (suc n) h ≡ (h 0 || among n (λ k. h (suc k)))
unfolding among
shift h zero = refl
shift h (suc n) = ap (λ b. h (suc n) || b) (shift h n) ∙ swap (h (suc n)) (h 0) (among n (λ k. h (suc k)))
  where
    swap : (a b c : Bool) → (a || (b || c)) ≡ (b || (a || c))
    swap true true c = refl
    swap true false c = refl
    swap false b c = refl

module _ {A : Type 0} (d : A) where
  among_list : (f : A → Bool) (xs : List A) → among (length xs) (λ k. f (get_or xs k d)) ≡ any f xs
  unfolding among
  among_list f [] = refl
  among_list f (x ∷ xs) = shift (λ k. f (get_or (x ∷ xs) k d)) (length xs) ∙ ap (λ b. f x || b) (among_list f xs)

  pub among-any : (f : A → Bool) (t : ℕ → Bool) (xs : List A) (n : ℕ) → n ≡ length xs
      → ((k : ℕ) → k < length xs → t k ≡ f (get_or xs k d)) → among n t ≡ any f xs
  among-any f t xs n e h = ap (λ m. among m t) e ∙ among_same t _ (length xs) h ∙ among_list f xs

  some_at : {B : Type 0} (f : A → B) (xs : List A) (k : ℕ) → k < length xs → get_elem? (map f xs) k ≡ some (f (get_or xs k d))
  some_at f [] k h = absurd (omega arith)
  some_at f (x ∷ xs) zero h = refl
  some_at f (x ∷ xs) (suc k) h = some_at f xs k (omega arith)

-- DO: its rounds and its block stand behind the record's head.
module _ {bs : List ℕ} {p : ℕ} {x : Action} (a : ActionAt bs p x) where
  abbrev many : ℕ
  many = u16 (drop p bs) 0 - 2

  abbrev body : List ℕ
  body = body_at bs p

  -- A body of 4 bytes.
  module _ (long : length body ≡ 4) where
    inside : p + 8 ≤ length bs
    inside =
        let c = length-take many (drop 4 (drop p bs)) in
        let d = length-drop 4 (drop p bs) in
        let e = length-drop p bs in
        omega arith

    enough : 4 ≤ many
    enough = let c = length-take many (drop 4 (drop p bs)) in omega arith

    byte_at : (j : ℕ) → j < 4 → get_or body j 0 ≡ get_or bs (p + (4 + j)) 0
    byte_at j h =
        get_or-take many (drop 4 (drop p bs)) j 0 (omega (arith, enough))
        ∙ get_or-drop 4 (drop p bs) j 0
        ∙ get_or-drop p bs (4 + j) 0

    rounds_at : u16 bs (p + 4) ≡ u16 body 0
    rounds_at =
        let e : p + (4 + 0) ≡ p + 4 = omega arith in
        let f : p + (4 + 1) ≡ p + 4 + 1 = omega arith in
        let g = byte_at 0 (omega arith) ∙ ap (λ j. get_or bs j 0) e in
        let h = byte_at 1 (omega arith) ∙ ap (λ j. get_or bs j 0) f in
        omega arith

    block_at : u16 bs (p + 6) ≡ u16 body 2
    block_at =
        let e : p + (4 + 2) ≡ p + 6 = omega arith in
        let f : p + (4 + 3) ≡ p + 6 + 1 = omega arith in
        let g = byte_at 2 (omega arith) ∙ ap (λ j. get_or bs j 0) e in
        let h = byte_at 3 (omega arith) ∙ ap (λ j. get_or bs j 0) f in
        omega arith

pub do_inside : {bs : List ℕ} {p : ℕ} {x : Action} → ActionAt bs p x → kind_at bs p ≡ K.DO → p + 8 ≤ length bs
do_inside {bs} {p} {x} a e = by (is_do a e)
  where
    by : (n : ℕ) × (b : ℕ) × (x ≡ DO n b) → p + 8 ≤ length bs
    by d = let t : ActionAt bs p (DO d.0 d.1) = subst (ActionAt bs p) d.2 a in inside t (told t).long

pub do_enters : {bs : List ℕ} {p : ℕ} {x : Action} → ActionAt bs p x → kind_at bs p ≡ K.DO → (b r : ℕ)
    → (eqb (u16 bs (p + 6)) b && (leb 1 r && leb r (u16 bs (p + 4)))) ≡ enters x b r
do_enters {bs} {p} {x} a e b r = by (is_do a e)
  where
    by : (n : ℕ) × (k : ℕ) × (x ≡ DO n k) → (eqb (u16 bs (p + 6)) b && (leb 1 r && leb r (u16 bs (p + 4)))) ≡ enters x b r
    by d =
        let t : ActionAt bs p (DO d.0 d.1) = subst (ActionAt bs p) d.2 a in
        let s : Numbers d.0 d.1 (body_at bs p) = told t in
        ap (λ n. eqb n b && (leb 1 r && leb r (u16 bs (p + 4)))) (block_at t s.long ∙ s.second_is)
        ∙ ap (λ n. eqb d.1 b && (leb 1 r && leb r n)) (rounds_at t s.long ∙ s.first_is)
        ∙ sym (ap (λ y. enters y b r) d.2)

-- TRY AND WHILE: the block of each branch stands before its claim.
abbrev no_branch : Branch
no_branch = record { block = 0; claim = [] }

module _ {bs row : List ℕ} {a : ℕ} where
  branch_at : (xs : List Branch) → OffersAt bs row a (map (λ x. record { claim = x.claim; and_then = enter_block x.block }) xs)
      → (k : ℕ) → k < length xs → u16 bs (claim_at row (get_or row (Map.FROM + a) 0 + k) - 2) ≡ (get_or xs k no_branch).block
  branch_at xs o k h =
      let f : Branch → Offer = λ x. record { claim = x.claim; and_then = enter_block x.block } in
      let x : Branch = get_or xs k no_branch in
      (o.each k (f x) (some_at no_branch f xs k h)).enters x.block refl

  branches_enter : (b : ℕ) (xs : List Branch)
      → OffersAt bs row a (map (λ x. record { claim = x.claim; and_then = enter_block x.block }) xs)
      → branch_enters bs row a b ≡ any (λ x. eqb x.block b) xs
  branches_enter b xs o =
      let f : Branch → Offer = λ x. record { claim = x.claim; and_then = enter_block x.block } in
      let c : length (map f xs) ≡ length xs = length-map xs f in
      among-any no_branch (λ x. eqb x.block b) _ xs _ (omega (arith, o.to_is))
      (λ k h. ap (λ n. eqb n b) (branch_at xs o k h))

  pub branch_enters_lem : (x : Action) → OffersAt bs row a (offers x) → (eqb (kind_of x) K.TRY || eqb (kind_of x) K.WHILE) ≡ true
      → (b r : ℕ)
      → (branch_enters bs row a b && eqb r 1) ≡ enters x b r
  branch_enters_lem (HOLD e) o h b r = no_way h
  branch_enters_lem (PRIO e) o h b r = no_way h
  branch_enters_lem (TRACE e) o h b r = no_way h
  branch_enters_lem (SET i e) o h b r = no_way h
  branch_enters_lem (LSET i e) o h b r = no_way h
  branch_enters_lem (DO n k) o h b r = no_way h
  branch_enters_lem (PUTR i n) o h b r = no_way h
  branch_enters_lem (PUTB i n) o h b r = no_way h
  branch_enters_lem (PUTS i n) o h b r = no_way h
  branch_enters_lem (BECOME i) o h b r = no_way h
  branch_enters_lem (REQ c) o h b r = no_way h
  branch_enters_lem (TRY xs) o h b r = ap (λ t. t && eqb r 1) (branches_enter b xs o)
  branch_enters_lem (WHILE k c) o h b r =
      ap (λ t. t && eqb r 1) (branches_enter b (record { block = k; claim = c } ∷ []) o ∙ or_none (eqb k b))
    where
      or_none : (t : Bool) → (t || false) ≡ t
      or_none true = refl
      or_none false = refl
  branch_enters_lem (START c t l) o h b r = no_way h
  branch_enters_lem CLOSE o h b r = no_way h

  pub branching : length row ≡ Map.WORDS → {x : Action} → ActsAt bs row a x → Branching bs row a
  branching l {x} t =
      let o = t.offers_at in
      record {
        long = l;
        low = t.low;
        to_few = omega (arith, o.to_is, o.from_few);
        to_high = omega (arith, o.to_is);
        each = λ k h. inside_at (offers x) o k (omega (arith, o.to_is));
      }
    where
      no_offer : Offer
      no_offer = record { claim = []; and_then = enter_block 0 }

      there : (os : List Offer) (k : ℕ) → k < length os → get_elem? os k ≡ some (get_or os k no_offer)
      there [] k h = absurd (omega arith)
      there (y ∷ ys) zero h = refl
      there (y ∷ ys) (suc k) h = there ys k (omega arith)

      inside_at : (os : List Offer) → OffersAt bs row a os → (k : ℕ) → k < length os
          → (2 ≤ claim_at row (get_or row (Map.FROM + a) 0 + k)) × (claim_at row (get_or row (Map.FROM + a) 0 + k) ≤ length bs)
      inside_at os o k h =
          let z = o.each k (get_or os k no_offer) (there os k h) in (z.behind, omega (arith, z.inside))

-- ALL OTHERS enter nothing.
pub others_enter : (x : Action) → (kind_of x ≡ K.DO → ⊥) → (eqb (kind_of x) K.TRY || eqb (kind_of x) K.WHILE) ≡ false → (b r : ℕ)
    → false ≡ enters x b r
others_enter (HOLD e) g h b r = refl
others_enter (PRIO e) g h b r = refl
others_enter (TRACE e) g h b r = refl
others_enter (SET i e) g h b r = refl
others_enter (LSET i e) g h b r = refl
others_enter (DO n k) g h b r = absurd (g refl)
others_enter (PUTR i n) g h b r = refl
others_enter (PUTB i n) g h b r = refl
others_enter (PUTS i n) g h b r = refl
others_enter (BECOME i) g h b r = refl
others_enter (REQ c) g h b r = refl
others_enter (TRY xs) g h b r = no_way (sym h)
others_enter (WHILE k c) g h b r = no_way (sym h)
others_enter (START c t l) g h b r = refl
others_enter CLOSE g h b r = refl

-- THE ACTION where one stands, if it isn't past the last.
pub record Acts (bs row : List ℕ) (a : ℕ) (o : Option Action) : Type 0 where
  pub action : Action
  pub is : o ≡ some action
  pub at : ActsAt bs row a action

module _ {bs row : List ℕ} {a : ℕ} (v : Standing bs row a) where
  pub acts_in : (a ≡ Limit.ACTIONS → ⊥) → Acts bs row a v.action
  acts_in g = by v.action v.there
    where
      by : (o : Option Action) → At bs row a o → Acts bs row a o
      by none t = absurd (g t)
      by (some x) t = record { action = x; is = refl; at = t }

  pub none_in : a ≡ Limit.ACTIONS → v.action ≡ none
  none_in g = by v.action v.there
    where
      by : (o : Option Action) → At bs row a o → o ≡ none
      by none t = refl
      by (some x) t = let l = t.low in absurd (omega arith)

-- Its record stands at byte `at`, and has this kind.
module _ {bs row : List ℕ} {a : ℕ} (v : Standing bs row a) (g : a ≡ Limit.ACTIONS → ⊥) (at : ℕ)
    (e : at ≡ get_or row (Map.PLACE + a) 0) where
  abbrev x : Action
  x = (acts_in v g).action

  pub number_low : a < Limit.ACTIONS
  number_low = (acts_in v g).at.low

  record_at : ActionAt bs at x
  record_at = rw e (acts_in v g).at.acts_at

  pub head_inside : at + 4 ≤ length bs
  head_inside = record_at.there

  pub its_branches : Branching bs row a
  its_branches = branching v.long (acts_in v g).at

  module _ (kind : ℕ) (k : kind ≡ u16 bs (at + 2)) where
    kind_is : kind ≡ kind_of x
    kind_is = k ∙ kind_of_lem record_at

    pub body_inside : kind ≡ K.DO → at + 8 ≤ length bs
    body_inside d = do_inside record_at (sym k ∙ d)

    pub by_do : kind ≡ K.DO → (b r : ℕ)
        → (eqb (u16 bs (at + 6)) b && (leb 1 r && leb r (u16 bs (at + 4)))) ≡ enters_at v.action b r
    by_do d b r = do_enters record_at (sym k ∙ d) b r ∙ sym (ap (λ o. enters_at o b r) (acts_in v g).is)

    pub by_branch : (eqb kind K.TRY || eqb kind K.WHILE) ≡ true → (b r : ℕ)
        → (branch_enters bs row a b && eqb r 1) ≡ enters_at v.action b r
    by_branch d b r =
        branch_enters_lem x (acts_in v g).at.offers_at (ap (λ n. eqb n K.TRY || eqb n K.WHILE) (sym kind_is) ∙ d) b r
        ∙ sym (ap (λ o. enters_at o b r) (acts_in v g).is)

    pub by_none : (kind ≡ K.DO → ⊥) → (eqb kind K.TRY || eqb kind K.WHILE) ≡ false → (b r : ℕ) → false ≡ enters_at v.action b r
    by_none d f b r =
        others_enter x (λ z. d (kind_is ∙ z)) (ap (λ n. eqb n K.TRY || eqb n K.WHILE) (sym kind_is) ∙ f) b r
        ∙ sym (ap (λ o. enters_at o b r) (acts_in v g).is)

    pub by_asking : (eqb kind K.REQ || eqb kind K.TRY) ≡ asks_at v.action
    by_asking =
        ap (λ n. eqb n K.REQ || eqb n K.TRY) kind_is ∙ sym (ap asks_at (acts_in v g).is)
