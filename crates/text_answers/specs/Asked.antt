-- Where the names that actions ask for are known, their records name only what is there, and blocks that come later.
-- Assumes nothing.
use Prim.Native.Nat.{ℕ, suc, ◌+◌, ◌≤◌, ◌<◌}
use native.Mathlib.Omega.{arith}
use Rattle.std.specs.Prelude.{◌≡◌, refl, List, [], ◌∷◌, ◌++◌, map, Bool, true, false, ◌&&◌, ◌||◌, eqb, get_or, if◌then◌else◌}
use Rattle.std.proofs.Common.{sym, ap, ◌∙◌, subst, eqb-true}
use Rattle.std.proofs.Math.Option.{none}
use Rattle.semantics.specs.Words.{any, collect}
use Rattle.semantics.specs.Numbers as F
use Rattle.semantics.specs.Kinds as K
use Rattle.semantics.specs.Model as M
use Rattle.semantics.specs.Model.{Expr}
use Rattle.semantics.specs.Record as R
use Rattle.promises.specs.Laws.{no_way, and-true, or-true, AllOf, all_map, all_split, any_map, over-append, over_zero, once}
use Rattle.promises.specs.Counted.{group_of}
use Rattle.text_semantics.specs.Numbers as No
use Rattle.text_semantics.specs.Grammar as G
use Rattle.text_semantics.specs.Grammar.{Name, Part, Ex, Kind, Act}
use Rattle.text_semantics.specs.Names.{Known, Event, asks, named, fits, LOCAL, trouble, in_ex, in_item, in_claim}
use Rattle.text_semantics.specs.Names.{in_give, in_gives, in_act, store, value}
use Rattle.text_semantics.specs.Meaning.{kind_of, number_of, value_of, store_in, Means, means, item_of, claim_of, share_of, shares_of}
use Rattle.text_semantics.specs.Meaning.{Owned, owned, opened, Direct, direct, inside, to_do, to_while, to_try, in_tokens, in_braces}
use Rattle.text_promises.specs.Judged.{of_group}
use Rattle.text_promises.specs.Fitting.{direct_fits}
use Rattle.text_agrees.specs.Lines.{wants_nothing}
use Rattle.text_agrees.specs.Slots.{Apart, named_once}
use Rattle.text_answers.specs.Naming.{In, ExprKnown, ItemKnown, ClaimKnown, BranchKnown, ActionKnown, EntryKnown}
use Rattle.text_answers.specs.Seconds.{Runs, runs_append, InOrder, then_runs}

-- NUMBERS IN RANGE, where n has how many records there are of each group: a local is one of eight.
abbrev pub bound : List ℕ → ℕ → ℕ
bound n w = if eqb w LOCAL then F.locals else get_or n w 0

abbrev pub Numbered : List ℕ → List Known → Type 0
Numbered n ks = AllOf (λ k. k.number < bound n k.what) ks

-- One that fits is the one that has the name.
fits-named : (ws : List ℕ) (x : Name) (ks : List Known) → any (fits ws x) ks ≡ true → any (named x) ks ≡ true
fits-named ws x ks h = any_map (fits ws x) (named x) (λ k e. (and-true (named x k) (any (eqb k.what) ws) e).0) ks h

pub found : (n ws : List ℕ) (x : Name) (ks : List Known) → Apart ks → Numbered n ks → any (fits ws x) ks ≡ true
    → (any (eqb (kind_of ks x)) ws ≡ true) × (number_of ks x < bound n (kind_of ks x))
found n ws x [] a m h = no_way h
found n ws x (k ∷ ks) a m h = go (named x k) (any (eqb k.what) ws) refl refl h (λ e. found n ws x ks a.1 m.1 e)
  where
    go : (w f : Bool) → named x k ≡ w → any (eqb k.what) ws ≡ f → ((w && f) || any (fits ws x) ks) ≡ true
        → (any (fits ws x) ks ≡ true → (any (eqb (kind_of ks x)) ws ≡ true) × (number_of ks x < bound n (kind_of ks x)))
        → (any (eqb (if w then k.what else kind_of ks x)) ws ≡ true)
        × ((if w then k.number else number_of ks x) < bound n (if w then k.what else kind_of ks x))
    go true true e f g i = (f, m.0)
    go true false e f g i = no_way (sym (named_once x k.name ks e a.0) ∙ fits-named ws x ks g)
    go false f e d g i = i g

-- NAMES THAT ARE ASKED FOR, where ks are known.
abbrev pub Asked : List Known → List Event → Type 0
Asked ks es = AllOf (λ e. trouble ks e ≡ none) es

abbrev KnownAs : List ℕ → ℕ → (p : Part) → Means p → Type 0
KnownAs n own (G.expression d) e = ExprKnown n own e
KnownAs n own (G.term d) e = ExprKnown n own e
KnownAs n own (G.terms d) f = (a : Expr) → ExprKnown n own a → ExprKnown n own (f a)
KnownAs n own (G.factor d) e = ExprKnown n own e
KnownAs n own (G.factors d) f = (a : Expr) → ExprKnown n own a → ExprKnown n own (f a)
KnownAs n own (G.minus d) e = ExprKnown n own e
KnownAs n own (G.atom d) e = ExprKnown n own e

module _ (n : List ℕ) (ks : List Known) (apart : Apart ks) (numbers : Numbered n ks) where
  there : (ws : List ℕ) (x : Name) → trouble ks (asks ws x) ≡ none
      → (any (eqb (kind_of ks x)) ws ≡ true) × (number_of ks x < bound n (kind_of ks x))
  unfolding trouble
  there ws x h = found n ws x ks apart numbers (wants_nothing No.UNKNOWN _ h)

  of_kind : (w : ℕ) (x : Name) → kind_of ks x ≡ w → number_of ks x < bound n (kind_of ks x) → number_of ks x < bound n w
  of_kind w x e l = subst (λ v. number_of ks x < bound n v) e l

  pub one_of : (w : ℕ) (x : Name) → trouble ks (asks (w ∷ []) x) ≡ none → number_of ks x < bound n w
  one_of w x h =
      let a = there (w ∷ []) x h in
      or-true (eqb (kind_of ks x) w) false a.0 (number_of ks x < bound n w)
      (λ e. of_kind w x (eqb-true (kind_of ks x) w e) a.1) (λ e. no_way e)

  -- A variable, a local or a sampler.
  value_known : (own : ℕ) (x : Name) → trouble ks (asks value x) ≡ none → ExprKnown n own (value_of ks x)
  value_known own x h =
      go (eqb (kind_of ks x) K.VAR) (eqb (kind_of ks x) LOCAL) (eqb (kind_of ks x) K.SAMPLER) refl refl refl a.0
    where
      a : (any (eqb (kind_of ks x)) value ≡ true) × (number_of ks x < bound n (kind_of ks x))
      a = there value x h

      go : (b c d : Bool) → eqb (kind_of ks x) K.VAR ≡ b → eqb (kind_of ks x) LOCAL ≡ c → eqb (kind_of ks x) K.SAMPLER ≡ d
          → (b || (c || (d || false))) ≡ true
          → ExprKnown n own
          (if b then M.global (number_of ks x) else if d then M.draw (number_of ks x) else M.local (number_of ks x))
      go true c d e f g i = of_kind K.VAR x (eqb-true (kind_of ks x) K.VAR e) a.1
      go false c true e f g i = of_kind K.SAMPLER x (eqb-true (kind_of ks x) K.SAMPLER g) a.1
      go false true false e f g i = of_kind LOCAL x (eqb-true (kind_of ks x) LOCAL f) a.1
      go false false false e f g i = no_way i

  store_known : (own : ℕ) (x : Name) (e : Expr) → trouble ks (asks store x) ≡ none → ExprKnown n own e
      → ActionKnown n own (store_in ks x e)
  store_known own x y h k = go (eqb (kind_of ks x) K.VAR) (eqb (kind_of ks x) LOCAL) refl refl a.0
    where
      a : (any (eqb (kind_of ks x)) store ≡ true) × (number_of ks x < bound n (kind_of ks x))
      a = there store x h

      go : (b c : Bool) → eqb (kind_of ks x) K.VAR ≡ b → eqb (kind_of ks x) LOCAL ≡ c → (b || (c || false)) ≡ true
          → ActionKnown n own (if b then M.SET (number_of ks x) y else M.LSET (number_of ks x) y)
      go true c e f i = (of_kind K.VAR x (eqb-true (kind_of ks x) K.VAR e) a.1, k)
      go false true e f i = (of_kind LOCAL x (eqb-true (kind_of ks x) LOCAL f) a.1, k)
      go false false e f i = no_way i

  -- EXPRESSIONS.
  module _ (own : ℕ) where
    two_asked : (es fs : List Event) → Asked ks (es ++ fs) → Asked ks es × Asked ks fs
    two_asked es fs h = all_split (λ e. trouble ks e ≡ none) es fs h

    means_known : {p : Part} (x : Ex p) → Asked ks (in_ex x) → KnownAs n own p (means ks x)
    unfolding means
    means_known (G.sum t ts) h = let a = two_asked (in_ex t) (in_ex ts) h in means_known ts a.1 _ (means_known t a.0)
    means_known G.no_terms h = λ a k. k
    means_known (G.plus t ts) h =
        let b = two_asked (in_ex t) (in_ex ts) h in λ a k. means_known ts b.1 _ (k, means_known t b.0)
    means_known (G.less t ts) h =
        let b = two_asked (in_ex t) (in_ex ts) h in λ a k. means_known ts b.1 _ (k, means_known t b.0)
    means_known (G.product f fs) h = let a = two_asked (in_ex f) (in_ex fs) h in means_known fs a.1 _ (means_known f a.0)
    means_known G.no_factors h = λ a k. k
    means_known (G.times f fs) h =
        let b = two_asked (in_ex f) (in_ex fs) h in λ a k. means_known fs b.1 _ (k, means_known f b.0)
    means_known (G.literal m) h = tt
    means_known (G.plain a) h = means_known a h
    means_known (G.negative m) h = means_known m h
    means_known (G.magnitude m) h = tt
    means_known (G.negated a) h = means_known a h
    means_known (G.again m) h = means_known m h
    means_known (G.value x) h = value_known own x h.0
    means_known G.clock h = tt
    means_known (G.bracket e) h = means_known e h
    means_known (G.lesser a b) h = let c = two_asked (in_ex a) (in_ex b) h in (means_known a c.0, means_known b c.1)
    means_known (G.greater a b) h = let c = two_asked (in_ex a) (in_ex b) h in (means_known a c.0, means_known b c.1)

    -- CLAIMS, and what a start hands over.
    item_known : (i : G.Item) → Asked ks (in_item i) → ItemKnown n own (item_of ks i)
    item_known (G.get_r x v) h = one_of K.RES x h.0
    item_known (G.get_b x v) h = one_of K.BIN x h.0
    item_known (G.get_s x v) h = one_of K.SYNC x h.0
    item_known (G.condition x r z) h = one_of K.VAR x h.0

    items_known : (is : List G.Item) → Asked ks (collect in_item is) → ClaimKnown n own (map (item_of ks) is)
    items_known [] h = tt
    items_known (i ∷ is) h =
        let a = two_asked (in_item i) (collect in_item is) h in (item_known i a.0, items_known is a.1)

    claim_known : (c : G.Claim) → Asked ks (in_claim c) → ClaimKnown n own (claim_of ks c)
    claim_known G.nothing h = tt
    claim_known (G.claim i is) h = items_known (i ∷ is) h

    given_known : (gs : List G.Give) → Asked ks (collect in_give gs) → AllOf (λ x. In n own K.RES x.of) (map (share_of ks) gs)
    given_known [] h = tt
    given_known (G.give x v ∷ gs) h = (one_of K.RES x h.0, given_known gs h.1)

    gives_known : (g : G.Gives) → Asked ks (in_gives g) → AllOf (λ x. In n own K.RES x.of) (shares_of ks g)
    gives_known G.no_gives h = tt
    gives_known (G.gives x v gs) h = (one_of K.RES x h.0, given_known gs h.1)

  -- ACTIONS, where the next brace opens block k and own blocks have been opened before this one's actions.
  abbrev DirectKnown : (j : Kind) → ℕ → Direct j → Type 0
  DirectKnown G.action own o = EntryKnown n own o.entry
  DirectKnown G.actions own os = AllOf (λ o. EntryKnown n own o.entry) os
  DirectKnown G.branches own bs = AllOf (BranchKnown n own) bs

  direct_known : {j : Kind} (a : Act j) (own k at : ℕ) → own ≤ k → k + opened a ≤ get_or n K.BLOCK 0 → Asked ks (in_act a)
      → DirectKnown j own (direct ks a k at)
  unfolding direct
  direct_known (G.hold e) own k at o l h = means_known own e h
  direct_known (G.priority e) own k at o l h = means_known own e h
  direct_known (G.trace e) own k at o l h = means_known own e h
  direct_known (G.set x e) own k at o l h = store_known own x (means ks e) h.0 (means_known own e h.1)
  direct_known (G.repeat m b) own k at o l h = (omega arith, o)
  direct_known (G.put_r x m) own k at o l h = one_of K.RES x h.0
  direct_known (G.put_b x m) own k at o l h = one_of K.BIN x h.0
  direct_known (G.put_s x m) own k at o l h = one_of K.SYNC x h.0
  direct_known (G.become x) own k at o l h = one_of K.SYNC x h.0
  direct_known (G.req c) own k at o l h = claim_known own c h
  direct_known (G.try c b bs) own k at o l h =
      let a = two_asked own (in_claim c ++ in_act b) (in_act bs) h in
      let d = two_asked own (in_claim c) (in_act b) a.0 in (
        ((omega arith, o), claim_known own c d.0),
        direct_known bs own (suc k + opened b) (at + to_try c + in_braces b) (omega arith) (omega arith) a.1,
      )
  direct_known (G.while c b) own k at o l h =
      let a = two_asked own (in_claim c) (in_act b) h in ((omega arith, o), claim_known own c a.0)
  direct_known (G.start x m g) own k at o l h = (one_of K.CLASS x h.0, gives_known own g h.1)
  direct_known G.close own k at o l h = tt
  direct_known G.no_branches own k at o l h = tt
  direct_known (G.etry c b bs) own k at o l h =
      let a = two_asked own (in_claim c ++ in_act b) (in_act bs) h in
      let d = two_asked own (in_claim c) (in_act b) a.0 in (
        ((omega arith, o), claim_known own c d.0),
        direct_known bs own (suc k + opened b) (at + to_try c + in_braces b) (omega arith) (omega arith) a.1,
      )
  direct_known G.no_actions own k at o l h = tt
  direct_known (G.follow a b) own k at o l h =
      let c = two_asked own (in_act a) (in_act b) h in (
        direct_known a own k at o (omega arith) c.0,
        direct_known b own (k + opened a) (at + in_tokens a) (omega arith) (omega arith) c.1,
      )

  -- THE RECORDS of a block: its actions open none,
  direct_group : (b : Act G.actions) (k at : ℕ) → AllOf (λ o. group_of o.entry ≡ K.ACTION) (direct ks b k at)
  direct_group b k at =
      all_map _ (λ o. group_of o.entry ≡ K.ACTION) (λ o a. a.1) (direct ks b k at) (direct_fits ks b k at)

  no_blocks : (os : List Owned) → AllOf (λ o. group_of o.entry ≡ K.ACTION) os → of_group K.BLOCK os ≡ 0
  no_blocks os h =
      over_zero (λ o. once K.BLOCK (group_of o.entry)) (λ o. group_of o.entry ≡ K.ACTION) (λ o e. ap (once K.BLOCK) e) os h

  runs_actions : (own : ℕ) (os : List Owned) → AllOf (λ o. group_of o.entry ≡ K.ACTION) os
      → AllOf (λ o. EntryKnown n own o.entry) os → Runs n own os
  runs_actions own [] g h = tt
  runs_actions own (o ∷ os) g h =
      let e : own ≡ own + once K.BLOCK (group_of o.entry) = omega (arith, ap (once K.BLOCK) g.0) in
      (h.0, subst (λ m. Runs n m os) e (runs_actions own os g.1 h.1))

  -- and the blocks inside come in their order.
  pub block_runs : (b : Act G.actions) (at k p own : ℕ) → Asked ks (in_act b)
      → InOrder n (suc k) (opened b) (inside ks b own (suc k) p)
      → InOrder n k (suc (opened b)) (owned R.BLOCK at ∷ direct ks b (suc k) p ++ inside ks b own (suc k) p)
  block_runs b at k p own h i =
      let ds : List Owned = direct ks b (suc k) p in
      let os : List Owned = inside ks b own (suc k) p in
      let z = no_blocks ds (direct_group b (suc k) p) in
      let e : suc k ≡ suc k + of_group K.BLOCK ds = omega arith in
      let f : suc k ≡ k + 1 = omega arith in (
        λ l. (
          tt,
          subst (λ m. Runs n m (ds ++ os)) f
              (runs_append n (suc k) ds os
              (runs_actions (suc k) ds (direct_group b (suc k) p)
              (direct_known b (suc k) (suc k) p (omega arith) (omega arith) h))
              (subst (λ m. Runs n m os) e (i.0 (omega arith)))),
        ),
        omega (arith, i.1, over-append (λ o. once K.BLOCK (group_of o.entry)) ds os),
      )

  -- A branch, and the branches behind it.
  branch_runs : (b : Act G.actions) (bs : Act G.branches) (at k p own q o : ℕ) → Asked ks (in_act b)
      → InOrder n (suc k) (opened b) (inside ks b own (suc k) p)
      → InOrder n (suc k + opened b) (opened bs) (inside ks bs o (suc k + opened b) q)
      → InOrder n k (suc (opened b + opened bs))
      ((owned R.BLOCK at ∷ direct ks b (suc k) p ++ inside ks b own (suc k) p) ++ inside ks bs o (suc k + opened b) q)
  branch_runs b bs at k p own q o h i r =
      let e : suc k + opened b ≡ k + suc (opened b) = omega arith in
      let f : suc (opened b) + opened bs ≡ suc (opened b + opened bs) = omega arith in
      let os : List Owned = inside ks bs o (suc k + opened b) q in
      let ps : List Owned = owned R.BLOCK at ∷ direct ks b (suc k) p ++ inside ks b own (suc k) p in
      subst (λ m. InOrder n k m (ps ++ os)) f
      (then_runs n k (suc (opened b)) (opened bs) ps os (block_runs b at k p own h i)
      (subst (λ m. InOrder n m (opened bs) os) e r))

  pub inside_runs : {j : Kind} (a : Act j) (own k at : ℕ) → Asked ks (in_act a) → InOrder n k (opened a) (inside ks a own k at)
  unfolding inside
  inside_runs (G.hold e) own k at h = (λ l. tt, refl)
  inside_runs (G.priority e) own k at h = (λ l. tt, refl)
  inside_runs (G.trace e) own k at h = (λ l. tt, refl)
  inside_runs (G.set x e) own k at h = (λ l. tt, refl)
  inside_runs (G.put_r x m) own k at h = (λ l. tt, refl)
  inside_runs (G.put_b x m) own k at h = (λ l. tt, refl)
  inside_runs (G.put_s x m) own k at h = (λ l. tt, refl)
  inside_runs (G.become x) own k at h = (λ l. tt, refl)
  inside_runs (G.req c) own k at h = (λ l. tt, refl)
  inside_runs (G.start x m g) own k at h = (λ l. tt, refl)
  inside_runs G.close own k at h = (λ l. tt, refl)
  inside_runs G.no_branches own k at h = (λ l. tt, refl)
  inside_runs G.no_actions own k at h = (λ l. tt, refl)
  inside_runs (G.repeat m b) own k at h = block_runs b at k (at + to_do m) own h (inside_runs b own (suc k) (at + to_do m) h)
  inside_runs (G.while c b) own k at h =
      let a = two_asked own (in_claim c) (in_act b) h in
      block_runs b at k (at + to_while c) own a.1 (inside_runs b own (suc k) (at + to_while c) a.1)
  inside_runs (G.try c b bs) own k at h =
      let a = two_asked own (in_claim c ++ in_act b) (in_act bs) h in
      let d = two_asked own (in_claim c) (in_act b) a.0 in
      let q : ℕ = at + to_try c + in_braces b in
      branch_runs b bs at k (at + to_try c) own q at d.1 (inside_runs b own (suc k) (at + to_try c) d.1)
      (inside_runs bs at (suc k + opened b) q a.1)
  inside_runs (G.etry c b bs) own k at h =
      let a = two_asked own (in_claim c ++ in_act b) (in_act bs) h in
      let d = two_asked own (in_claim c) (in_act b) a.0 in
      let q : ℕ = at + to_try c + in_braces b in
      branch_runs b bs own k (at + to_try c) own q own d.1 (inside_runs b own (suc k) (at + to_try c) d.1)
      (inside_runs bs own (suc k + opened b) q a.1)
  inside_runs (G.follow a b) own k at h =
      let c = two_asked own (in_act a) (in_act b) h in
      then_runs n k (opened a) (opened b) (inside ks a own k at) (inside ks b own (k + opened a) (at + in_tokens a))
      (inside_runs a own k at c.0) (inside_runs b own (k + opened a) (at + in_tokens a) c.1)
