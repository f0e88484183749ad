-- What a text says has numbers that fit, and its declarations stand before its blocks.
-- Assumes nothing.
use Rattle.std.specs.Prelude.{ℕ, zero, suc, ◌+◌, ◌≤◌, ◌≡◌, refl, true, false, eqb, length}
use native.Mathlib.Omega.{arith}
use mathlib.Core.List.{List, [], ◌∷◌, ◌++◌, map}
use Rattle.std.proofs.Math.Dec.{leb→le}
use Rattle.semantics.specs.Words.{any}
use Rattle.semantics.specs.Kinds as K
use Rattle.semantics.specs.Model.{Expr}
use Rattle.semantics.specs.Record.{Entry}
use Rattle.promises.specs.Laws.{if_has, AllOf, all_map, all_append}
use Rattle.promises.specs.Counted.{group_of}
use Rattle.text_semantics.specs.Numbers as No
use Rattle.text_semantics.specs.Grammar as G
use Rattle.text_semantics.specs.Grammar.{Name, Part, Ex, Kind, Act, Declaration, Text, declare}
use Rattle.text_semantics.specs.Names.{Known, named, in_declaration, after, embodies, in_locals}
use Rattle.text_semantics.specs.Meaning as W
use Rattle.text_semantics.specs.Meaning.{Means, means, minus, signed_of, value_of, store_in, item_of, claim_of, Owned, owned, opened}
use Rattle.text_semantics.specs.Meaning.{Direct, direct, inside, to_do, to_while, to_try, in_tokens, in_braces, opened_by, entry_of}
use Rattle.text_semantics.specs.Meaning.{declarations, to_body, blocks_of, blocks, records}
use Rattle.text_promises.specs.Judged.{declares, Declarations, Blocks, InPlace, in_order}
use Rattle.text_promises.specs.Says.{I32, ExprFits, ItemFits, ClaimFits, ActionFits, Fits, is_action, is_block}

-- NUMBERS of the grammar.
minus_fits : (n : ℕ) → n ≤ No.top_magnitude → I32 (minus n)
minus_fits zero h = omega arith
minus_fits (suc n) h = omega arith

signed_fits : (z : G.Signed) → I32 (signed_of z)
signed_fits (G.upward n) = let h = leb→le n.value No.top_number n.fits in omega arith
signed_fits (G.downward n) = minus_fits n.value (leb→le n.value No.top_magnitude n.fits)

-- EXPRESSIONS.
abbrev FitsAs : (p : Part) → Means p → Type 0
FitsAs (G.expression d) e = ExprFits e
FitsAs (G.term d) e = ExprFits e
FitsAs (G.terms d) f = (a : Expr) → ExprFits a → ExprFits (f a)
FitsAs (G.factor d) e = ExprFits e
FitsAs (G.factors d) f = (a : Expr) → ExprFits a → ExprFits (f a)
FitsAs (G.minus d) e = ExprFits e
FitsAs (G.atom d) e = ExprFits e

module _ (ks : List Known) where
  value_fits : (x : Name) → ExprFits (value_of ks x)
  value_fits x =
      if_has ExprFits (eqb (W.kind_of ks x) K.VAR) (λ a. tt)
      (λ a. if_has ExprFits (eqb (W.kind_of ks x) K.SAMPLER) (λ b. tt) (λ b. tt))

  means_fits : {p : Part} (x : Ex p) → FitsAs p (means ks x)
  unfolding means
  means_fits (G.sum t ts) = means_fits ts _ (means_fits t)
  means_fits G.no_terms = λ a h. h
  means_fits (G.plus t ts) = λ a h. means_fits ts _ (h, means_fits t)
  means_fits (G.less t ts) = λ a h. means_fits ts _ (h, means_fits t)
  means_fits (G.product f fs) = means_fits fs _ (means_fits f)
  means_fits G.no_factors = λ a h. h
  means_fits (G.times f fs) = λ a h. means_fits fs _ (h, means_fits f)
  means_fits (G.literal n) = let h = leb→le n.value No.top_number n.fits in omega arith
  means_fits (G.plain a) = means_fits a
  means_fits (G.negative m) = means_fits m
  means_fits (G.magnitude n) = minus_fits n.value (leb→le n.value No.top_magnitude n.fits)
  means_fits (G.negated a) = means_fits a
  means_fits (G.again m) = means_fits m
  means_fits (G.value x) = value_fits x
  means_fits G.clock = tt
  means_fits (G.bracket e) = means_fits e
  means_fits (G.lesser a b) = (means_fits a, means_fits b)
  means_fits (G.greater a b) = (means_fits a, means_fits b)

  -- CLAIMS.
  item_fits : (i : G.Item) → ItemFits (item_of ks i)
  item_fits (G.get_r x n) = tt
  item_fits (G.get_b x n) = tt
  item_fits (G.get_s x n) = tt
  item_fits (G.condition x r z) = signed_fits z

  items_fit : (is : List G.Item) → ClaimFits (map (item_of ks) is)
  items_fit [] = tt
  items_fit (i ∷ is) = (item_fits i, items_fit is)

  claim_fits : (c : G.Claim) → ClaimFits (claim_of ks c)
  claim_fits G.nothing = tt
  claim_fits (G.claim i is) = (item_fits i, items_fit is)

-- ACTIONS fit, and so do the blocks inside, which are no declarations.
abbrev pub ActionIn : Owned → Type 0
ActionIn o = Fits o.entry × (group_of o.entry ≡ K.ACTION)

abbrev pub InBlock : Owned → Type 0
InBlock o = Fits o.entry × (declares o.entry ≡ false)

abbrev pub DirectFits : (j : Kind) → Direct j → Type 0
DirectFits G.action o = ActionIn o
DirectFits G.actions os = AllOf ActionIn os
DirectFits G.branches bs = AllOf (λ b. ClaimFits b.claim) bs

in_blocks : (os : List Owned) → AllOf ActionIn os → AllOf InBlock os
in_blocks os h = all_map ActionIn InBlock (λ o a. (a.0, (is_action o.entry a.1).1)) os h

module _ (ks : List Known) where
  store_fits : (x : Name) (e : Expr) → ExprFits e → ActionFits (store_in ks x e)
  store_fits x e h = if_has ActionFits (eqb (W.kind_of ks x) K.VAR) (λ a. h) (λ a. h)

  pub direct_fits : {j : Kind} (a : Act j) (k at : ℕ) → DirectFits j (direct ks a k at)
  unfolding direct
  direct_fits (G.hold e) k at = (means_fits ks e, refl)
  direct_fits (G.priority e) k at = (means_fits ks e, refl)
  direct_fits (G.trace e) k at = (means_fits ks e, refl)
  direct_fits (G.set x e) k at = (store_fits x (means ks e) (means_fits ks e), refl)
  direct_fits (G.repeat n b) k at = (tt, refl)
  direct_fits (G.put_r x n) k at = (tt, refl)
  direct_fits (G.put_b x n) k at = (tt, refl)
  direct_fits (G.put_s x n) k at = (tt, refl)
  direct_fits (G.become x) k at = (tt, refl)
  direct_fits (G.req c) k at = (claim_fits ks c, refl)
  direct_fits (G.try c b bs) k at =
      ((claim_fits ks c, direct_fits bs (suc k + opened b) (at + to_try c + in_braces b)), refl)
  direct_fits (G.while c b) k at = (claim_fits ks c, refl)
  direct_fits (G.start x n g) k at = (tt, refl)
  direct_fits G.close k at = (tt, refl)
  direct_fits G.no_branches k at = tt
  direct_fits (G.etry c b bs) k at = (claim_fits ks c, direct_fits bs (suc k + opened b) (at + to_try c + in_braces b))
  direct_fits G.no_actions k at = tt
  direct_fits (G.follow a b) k at = (direct_fits a k at, direct_fits b (k + opened a) (at + in_tokens a))

  -- What is in a block: its actions, and the blocks inside.
  block_fits : (b : Act G.actions) (k at : ℕ) (os : List Owned) → AllOf InBlock os → AllOf InBlock (direct ks b k at ++ os)
  block_fits b k at os h = all_append InBlock (direct ks b k at) os (in_blocks (direct ks b k at) (direct_fits b k at)) h

  pub inside_fits : {j : Kind} (a : Act j) (own k at : ℕ) → AllOf InBlock (inside ks a own k at)
  unfolding inside
  inside_fits (G.hold e) own k at = tt
  inside_fits (G.priority e) own k at = tt
  inside_fits (G.trace e) own k at = tt
  inside_fits (G.set x e) own k at = tt
  inside_fits (G.put_r x n) own k at = tt
  inside_fits (G.put_b x n) own k at = tt
  inside_fits (G.put_s x n) own k at = tt
  inside_fits (G.become x) own k at = tt
  inside_fits (G.req c) own k at = tt
  inside_fits (G.start x n g) own k at = tt
  inside_fits G.close own k at = tt
  inside_fits G.no_branches own k at = tt
  inside_fits G.no_actions own k at = tt
  inside_fits (G.repeat n b) own k at =
      ((tt, refl), block_fits b (suc k) (at + to_do n) _ (inside_fits b own (suc k) (at + to_do n)))
  inside_fits (G.while c b) own k at =
      ((tt, refl), block_fits b (suc k) (at + to_while c) _ (inside_fits b own (suc k) (at + to_while c)))
  inside_fits (G.try c b bs) own k at = (
    (tt, refl),
    all_append InBlock (direct ks b (suc k) (at + to_try c) ++ inside ks b own (suc k) (at + to_try c)) _
        (block_fits b (suc k) (at + to_try c) _ (inside_fits b own (suc k) (at + to_try c)))
        (inside_fits bs at (suc k + opened b) (at + to_try c + in_braces b)),
  )
  inside_fits (G.etry c b bs) own k at = (
    (tt, refl),
    all_append InBlock (direct ks b (suc k) (at + to_try c) ++ inside ks b own (suc k) (at + to_try c)) _
        (block_fits b (suc k) (at + to_try c) _ (inside_fits b own (suc k) (at + to_try c)))
        (inside_fits bs own (suc k + opened b) (at + to_try c + in_braces b)),
  )
  inside_fits (G.follow a b) own k at =
      all_append InBlock (inside ks a own k at) _ (inside_fits a own k at) (inside_fits b own (k + opened a) (at + in_tokens a))

-- DECLARATIONS.
abbrev pub Declared : Owned → Type 0
Declared o = Fits o.entry × (declares o.entry ≡ true)

abbrev AllDeclared : ℕ → List Entry → Type 0
AllDeclared at es = AllOf Declared (map (λ e. owned e at) es)

entry_fits : (ks : List Known) (k at : ℕ) (d : Declaration) (ds : Text) → AllDeclared at (entry_of ks k d ds)
entry_fits ks k at (G.res x n) ds = ((tt, refl), tt)
entry_fits ks k at (G.bin x n) ds = ((tt, refl), tt)
entry_fits ks k at (G.sync x) ds = ((tt, refl), tt)
entry_fits ks k at (G.var x n) ds = ((signed_fits n, refl), tt)
entry_fits ks k at (G.sampler x a b n) ds = (((signed_fits a, signed_fits b), refl), tt)
entry_fits ks k at (G.class x b) ds = if_has (AllDeclared at) (any (named x) ks) (λ e. tt) (λ e. ((tt, refl), tt))
entry_fits ks k at (G.entity x n) ds = ((tt, refl), tt)

pub declarations_fit : (ks : List Known) (k at : ℕ) (t : Text) → AllOf Declared (declarations ks k at t)
unfolding declarations
declarations_fit ks k at [] = tt
declarations_fit ks k at (d ∷ ds) =
    all_append Declared (map (λ e. owned e at) (entry_of ks k d ds)) _ (entry_fits ks k at d ds)
    (declarations_fit (after ks (in_declaration d)) (k + opened_by d) (at + length (declare d [])) ds)

-- BLOCKS: the first record is a BLOCK, and none declares.
abbrev pub BlocksFit : List Owned → Type 0
BlocksFit [] = Unit {0}
BlocksFit (o ∷ os) = (Fits o.entry × (group_of o.entry ≡ K.BLOCK)) × AllOf InBlock os

all_in_blocks : (os : List Owned) → BlocksFit os → AllOf InBlock os
all_in_blocks [] h = tt
all_in_blocks (o ∷ os) h = ((h.0.0, (is_block o.entry h.0.1).1), h.1)

both_fit : (ps qs : List Owned) → BlocksFit ps → BlocksFit qs → BlocksFit (ps ++ qs)
both_fit [] qs h k = k
both_fit (p ∷ ps) qs h k = (h.0, all_append InBlock ps qs h.1 (all_in_blocks qs k))

class_fits : (ks : List Known) (k at : ℕ) (d : Declaration) → BlocksFit (blocks_of ks k at d)
class_fits ks k at (G.res x n) = tt
class_fits ks k at (G.bin x n) = tt
class_fits ks k at (G.sync x) = tt
class_fits ks k at (G.var x n) = tt
class_fits ks k at (G.sampler x a b n) = tt
class_fits ks k at (G.class x G.announced) = tt
class_fits ks k at (G.class x (G.body l b)) =
    let i : List Known = after ks (embodies x ∷ in_locals l) in
    ((tt, refl), block_fits i b (suc k) (at + to_body l) _ (inside_fits i b at (suc k) (at + to_body l)))
class_fits ks k at (G.entity x n) = tt

pub blocks_fit : (ks : List Known) (k at : ℕ) (t : Text) → BlocksFit (blocks ks k at t)
unfolding blocks
blocks_fit ks k at [] = tt
blocks_fit ks k at (d ∷ ds) =
    both_fit (blocks_of ks k at d) _ (class_fits ks k at d)
    (blocks_fit (after ks (in_declaration d)) (k + opened_by d) (at + length (declare d [])) ds)

-- ALL OF IT.
first_declare : (os : List Owned) → AllOf Declared os → Declarations os
first_declare os h = all_map Declared (λ o. declares o.entry ≡ true) (λ o a. a.1) os h

then_blocks : (os : List Owned) → BlocksFit os → Blocks os
then_blocks [] h = tt
then_blocks (o ∷ os) h = (h.0.1, all_map InBlock (λ o. declares o.entry ≡ false) (λ o a. a.1) os h.1)

module _ (t : Text) where
  abbrev ds : List Owned
  ds = declarations [] 0 0 t

  abbrev bs : List Owned
  bs = blocks [] 0 0 t

  pub records_fit : AllOf (λ o. Fits o.entry) (records t)
  unfolding records
  records_fit =
      all_append (λ o. Fits o.entry) ds bs
      (all_map Declared (λ o. Fits o.entry) (λ o a. a.0) ds (declarations_fit [] 0 0 t))
      (all_map InBlock (λ o. Fits o.entry) (λ o a. a.0) bs (all_in_blocks bs (blocks_fit [] 0 0 t)))

  pub records_declare : Declarations ds
  records_declare = first_declare ds (declarations_fit [] 0 0 t)

  pub records_block : Blocks bs
  records_block = then_blocks bs (blocks_fit [] 0 0 t)

  pub records_placed : InPlace 0 (records t)
  unfolding records
  records_placed = in_order ds bs records_declare records_block
