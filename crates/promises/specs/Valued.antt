-- What checks 5 to 8 and 10 give of one record: what it says fits the model.
-- Assumes nothing.
use Rattle.std.specs.Prelude.{ℕ, zero, suc, ◌+◌, ◌≤◌, ◌<◌, ◌≡◌, refl, Bool, false, not, ◌&&◌, ◌||◌, eqb, leb, ltb, length, get_or, drop, pos, ◌-ℤ◌}
use Rattle.std.proofs.Common.{arith, ap, subst}
use mathlib.Core.List.{List, [], ◌∷◌, map}
use Rattle.std.proofs.Math.Bool.{true}
use Rattle.std.proofs.Math.Option.{Option, none, some}
use borrow.Author.Tests.{leb-true, ltb-true, ltb-false, eqb-true}
use Rattle.std.proofs.Math.ListN.{length-map}
use Rattle.std.specs.Int.Signed.{le_z}
use Rattle.semantics.specs.Words.{all, any, within}
use Rattle.semantics.specs.Numbers as No
use Rattle.semantics.specs.Kinds as K
use Rattle.semantics.specs.Model.{Expr, resource, bin, sync}
use Rattle.semantics.specs.Model.{Item, get, condition, Model}
use Rattle.semantics.specs.Bytes.{u8, u16, u32, i32, signed, parts}
use Rattle.semantics.specs.Record.{Node, leaf, unary, binary, node_of, onto, pile, nodes, the_tree, expression_in, Part, item}
use Rattle.semantics.specs.Record.{share, part_size, part_valid, same_part, repeats, parts_of, list_valid, list_twice, relation_of}
use Rattle.semantics.specs.Record.{item_of, claim_in, share_of, shares_in, branches_from, branch_of, branches_in, Tail, expression}
use Rattle.semantics.specs.Record.{branches, list_of, claim, shares, valid, twice, in_set, Entry, RES, BIN, SYNC, VAR, CLASS}
use Rattle.semantics.specs.Record.{BLOCK, ENTITY, SAMPLER, ACTION, Row, table, row_of, sampler_of, sampler_valid}
use Rattle.semantics.specs.Decode.{node_known, part_known, tail_known, field_known, Gathered}
use Rattle.promises.specs.Laws.{no_way, and-true, or-false, or-true, if_has, ◌&◌, AllOf, all_both, all_mapped}
use Rattle.promises.specs.Laws.{all_hold, none_hold, Ordered}
use Rattle.promises.specs.Fit.{I32, Within, ExprFit, ItemFit, Apart, ClaimFit, BranchFit, ShareFit, SharesApart, ActFit}
use Rattle.promises.specs.Fit.{EntityFit, SamplerFit}
use Rattle.promises.specs.Says.{says_within}
use Rattle.promises.specs.Passes.{Judged, Named, its_row}
use Rattle.promises.specs.Counted.{counts}

-- What does not repeat stands apart.
apart : {B : Type 0} (same : List ℕ → List ℕ → Bool) (R : B → B → Type 0) (f : List ℕ → B)
    → ((x y : List ℕ) → same x y ≡ false → R (f x) (f y))
    → (xs : List (List ℕ)) → repeats same xs ≡ false → Ordered R (map f xs)
unfolding repeats
apart same R f g [] e = tt
apart same R f g (x ∷ xs) e =
    let a = or-false (any (same x) xs) _ e in
    (all_mapped (λ y. same x y ≡ false) (R (f x)) f (g x) xs (none_hold (same x) xs a.0), apart same R f g xs a.1)

-- NUMBERS in their sets.
signed_fits : (n : ℕ) → I32 (signed n)
signed_fits n =
    if_has I32 (ltb n 2_147_483_648) (λ e. ltb-true n 2_147_483_648 e)
    (λ e. let h = ltb-false n 2_147_483_648 e in omega arith)

pub parts_many : (k n : ℕ) (bs : List ℕ) → length (parts k n bs) ≡ n
unfolding parts
parts_many k zero bs = refl
parts_many k (suc n) bs = ap suc (parts_many k n (drop k bs))

branches_many : (n : ℕ) (bs : List ℕ) → length (branches_from n bs) ≡ n
unfolding branches_from
branches_many zero bs = refl
branches_many (suc n) bs = ap suc (branches_many n _)

-- ITEMS. What the bytes x of an item say if its kind is k, and check 6 on them.
abbrev item_at : List ℕ → ℕ → Item
item_at x k =
    get_or (get resource (u16 x 2) (u32 x 4) ∷ get bin (u16 x 2) (u32 x 4) ∷ get sync (u16 x 2) (u32 x 4) ∷ []) k
    (condition (u16 x 2) (relation_of (u8 x 1)) (i32 x 4))

abbrev valid_at : List ℕ → ℕ → Bool
valid_at x k = (leb k 2 && (eqb (u8 x 1) 0 && within 1 No.top_amount (u32 x 4))) || (eqb k 3 && within 1 6 (u8 x 1))

no_clash : (x y : List ℕ) (k l : ℕ) → leb k 2 && (eqb k l && eqb (u16 x 2) (u16 y 2)) ≡ false → Apart (item_at x k) (item_at y l)
no_clash x y zero zero e = e
no_clash x y zero (suc zero) e = refl
no_clash x y zero (suc (suc zero)) e = refl
no_clash x y zero (suc (suc (suc l))) e = refl
no_clash x y (suc zero) zero e = refl
no_clash x y (suc zero) (suc zero) e = e
no_clash x y (suc zero) (suc (suc zero)) e = refl
no_clash x y (suc zero) (suc (suc (suc l))) e = refl
no_clash x y (suc (suc zero)) zero e = refl
no_clash x y (suc (suc zero)) (suc zero) e = refl
no_clash x y (suc (suc zero)) (suc (suc zero)) e = e
no_clash x y (suc (suc zero)) (suc (suc (suc l))) e = refl
no_clash x y (suc (suc (suc k))) l e = refl

-- a thing is claimed in an amount from 1 on
amount : (x : List ℕ) → (eqb (u8 x 1) 0 && within 1 No.top_amount (u32 x 4)) || false ≡ true → Within 1 No.top_amount (u32 x 4)
amount x e =
    or-true (eqb (u8 x 1) 0 && within 1 No.top_amount (u32 x 4)) false e (Within 1 No.top_amount (u32 x 4))
    (λ f. says_within.yes (and-true (eqb (u8 x 1) 0) _ f).1) (λ f. no_way f)

-- past the kinds of things there is one of conditions
at_3 : (x : List ℕ) (k : ℕ) → 3 ≤ k → valid_at x k ≡ true → k ≡ 3
at_3 x k h e =
    or-true (leb k 2 && (eqb (u8 x 1) 0 && within 1 No.top_amount (u32 x 4))) _ e (k ≡ 3)
    (λ f. let l = leb-true k 2 (and-true (leb k 2) _ f).0 in absurd (omega arith))
    (λ f. eqb-true k 3 (and-true (eqb k 3) _ f).0)

-- AN ENTRY that fits. A class body also nests 8 blocks at most.
abbrev pub EntryFit : Model → Entry → Type 0
EntryFit m (RES n) = n ≤ No.top_amount
EntryFit m (BIN n) = n ≤ No.top_amount
EntryFit m SYNC = Unit {0}
EntryFit m (VAR v) = I32 v
EntryFit m (CLASS b) = b < length m.blocks
EntryFit m BLOCK = Unit {0}
EntryFit m (ENTITY x) = EntityFit m x
EntryFit m (SAMPLER x) = SamplerFit x
EntryFit m (ACTION a) = ActFit m a

-- IN THE MODEL m, where n has the counts that check 8 goes by.
module _ (n : List ℕ) (g : Gathered) (c : (j : ℕ) → get_or n j 0 ≡ get_or (counts g) j 0) where
  abbrev m : Model
  m = g.model

  there : (j i : ℕ) → ltb i (get_or n j 0) ≡ true → i < get_or (counts g) j 0
  there j i e = omega (arith, ltb-true i (get_or n j 0) e, c j)

  -- What 6, 7 and 8 say of a tail.
  abbrev TailPasses : Tail → List ℕ → Type 0
  TailPasses t bs = (valid t bs ≡ true) × (twice t bs ≡ false) × (tail_known n t bs ≡ true)

  -- Expressions.
  abbrev NodeFit : Node → Type 0
  NodeFit (leaf e) = ExprFit m e
  NodeFit (unary f) = (x : Expr) → ExprFit m x → ExprFit m (f x)
  NodeFit (binary f) = (x y : Expr) → ExprFit m x → ExprFit m y → ExprFit m (f x y)

  abbrev PileFit : Option (List Expr) → Type 0
  PileFit none = Unit {0}
  PileFit (some es) = AllOf (ExprFit m) es

  onto_fits : (d : Node) (es : List Expr) → NodeFit d → AllOf (ExprFit m) es → PileFit (onto d es)
  onto_fits (leaf e) es f h = (f, h)
  onto_fits (unary u) [] f h = tt
  onto_fits (unary u) (x ∷ es) f h = (f x h.0, h.1)
  onto_fits (binary u) [] f h = tt
  onto_fits (binary u) (x ∷ []) f h = tt
  onto_fits (binary u) (x ∷ y ∷ es) f h = (f x y h.0 h.1.0, h.1.1)

  -- What check 8 asks of a node with this op and operand.
  abbrev known : ℕ → ℕ → Bool
  known op v =
      (not (eqb op 1) || ltb v (get_or n K.VAR 0))
      && ((not (eqb op 2) || ltb v No.locals) && (not (eqb op 10) || ltb v (get_or n K.SAMPLER 0)))

  of_two : (x y : Expr) → ExprFit m x → ExprFit m y → ExprFit m x × ExprFit m y
  of_two x y a b = (a, b)

  node_fits : (op v : ℕ) → known op v ≡ true → NodeFit (node_of op v)
  node_fits zero v e = signed_fits v
  node_fits (suc zero) v e = there K.VAR v (and-true (ltb v (get_or n K.VAR 0)) _ e).0
  node_fits (suc (suc zero)) v e = ltb-true v No.locals (and-true (ltb v No.locals) _ e).0
  node_fits (suc (suc (suc zero))) v e = of_two
  node_fits (suc (suc (suc (suc zero)))) v e = of_two
  node_fits (suc (suc (suc (suc (suc zero))))) v e = of_two
  node_fits (suc (suc (suc (suc (suc (suc zero)))))) v e = of_two
  node_fits (suc (suc (suc (suc (suc (suc (suc zero))))))) v e = of_two
  node_fits (suc (suc (suc (suc (suc (suc (suc (suc zero)))))))) v e = tt
  node_fits (suc (suc (suc (suc (suc (suc (suc (suc (suc zero))))))))) v e = λ x a. a
  node_fits (suc (suc (suc (suc (suc (suc (suc (suc (suc (suc zero)))))))))) v e = there K.SAMPLER v e
  node_fits (suc (suc (suc (suc (suc (suc (suc (suc (suc (suc (suc op))))))))))) v e = tt

  pile_fits : (ns : List (List ℕ)) → all (node_known (get_or n K.VAR 0) (get_or n K.SAMPLER 0)) ns ≡ true → PileFit (pile ns)
  unfolding pile
  pile_fits [] e = tt
  pile_fits (d ∷ ns) e =
      let a = and-true (node_known (get_or n K.VAR 0) (get_or n K.SAMPLER 0) d) _ e in
      go (pile ns) a.0 (pile_fits ns a.1)
    where
      go : (p : Option (List Expr)) → node_known (get_or n K.VAR 0) (get_or n K.SAMPLER 0) d ≡ true → PileFit p
          → PileFit (elim p [ none ↦ none | some es ↦ onto (node_of (u16 d 0) (u32 d 2)) es ])
      go none e h = tt
      go (some es) e h = onto_fits (node_of (u16 d 0) (u32 d 2)) es (node_fits (u16 d 0) (u32 d 2) e) h

  tree_fits : (p : Option (List Expr)) → PileFit p → ExprFit m (the_tree p)
  tree_fits none h = tt
  tree_fits (some []) h = tt
  tree_fits (some (e ∷ es)) h = h.0

  expression_fits : (bs : List ℕ) → TailPasses expression bs → ExprFit m (expression_in bs)
  unfolding tail_known expression_in
  expression_fits bs t = tree_fits (pile (nodes bs)) (pile_fits (nodes bs) t.2)

  -- Claims, and what a START hands over.
  abbrev ListFit : {B : Type 0} → (B → Type 0) → (B → B → Type 0) → List B → Type 0
  ListFit P R xs = (length xs ≤ No.most_items) × AllOf P xs × Ordered R xs

  list_fits : {B : Type 0} (p : Part) (f : List ℕ → B) (P : B → Type 0) (R : B → B → Type 0)
      → ((x : List ℕ) → part_valid p x ≡ true → part_known p n x ≡ true → P (f x))
      → ((x y : List ℕ) → same_part p x y ≡ false → R (f x) (f y))
      → (bs : List ℕ) → TailPasses (list_of p) bs → ListFit P R (map f (parts_of p bs))
  unfolding tail_known list_valid list_twice
  list_fits p f P R g h bs t =
      let xs : List (List ℕ) = parts_of p bs in
      let a = and-true (leb (u16 bs 0) No.most_items) _ t.0 in
      let l = leb-true (u16 bs 0) No.most_items a.0 in
      let b = all_both _ _ xs (all_hold (part_valid p) xs a.1) (all_hold (part_known p n) xs t.2) in (
        omega (arith, length-map xs f, parts_many (part_size p) (u16 bs 0) (drop 2 bs)),
        all_mapped (λ x. (part_valid p x ≡ true) × (part_known p n x ≡ true)) P f (λ x k. g x k.0 k.1) xs b,
        apart (same_part p) R f h xs t.1,
      )

  item_fits : (x : List ℕ) (k : ℕ) → valid_at x k ≡ true → ltb (u16 x 2) (get_or n (k + 1) 0) ≡ true → ItemFit m (item_at x k)
  item_fits x zero e f = (there K.RES (u16 x 2) f, amount x e)
  item_fits x (suc zero) e f = (there K.BIN (u16 x 2) f, amount x e)
  item_fits x (suc (suc zero)) e f = (there K.SYNC (u16 x 2) f, amount x e)
  item_fits x (suc (suc (suc k))) e f =
      let d = at_3 x (suc (suc (suc k))) (omega arith) e in
      (there K.VAR (u16 x 2) (subst (λ j. ltb (u16 x 2) (get_or n (j + 1) 0) ≡ true) d f), signed_fits (u32 x 4))

  claim_fits : (bs : List ℕ) → TailPasses claim bs → ClaimFit m (claim_in bs)
  unfolding claim_in
  claim_fits =
      list_fits item item_of (ItemFit m) Apart (λ x. item_fits x (u8 x 0)) (λ x y. no_clash x y (u8 x 0) (u8 y 0))

  shares_fit : (bs : List ℕ) → TailPasses shares bs → ListFit (ShareFit m) SharesApart (shares_in bs)
  unfolding shares_in
  shares_fit =
      list_fits share share_of (ShareFit m) SharesApart
      (λ x v k. (there K.RES (u16 x 0) k, says_within.yes v)) (λ x y e. e)

  each_branch : (xs : List (List ℕ)) → all (λ b. list_valid item (drop 2 b)) xs ≡ true
      → any (λ b. list_twice item (drop 2 b)) xs ≡ false
      → all (λ b. ltb (u16 b 0) (get_or n K.BLOCK 0) && all (part_known item n) (parts_of item (drop 2 b))) xs ≡ true
      → AllOf (BranchFit m) (map branch_of xs)
  unfolding tail_known
  each_branch [] v t k = tt
  each_branch (b ∷ xs) v t k =
      let v₁ = and-true (list_valid item (drop 2 b)) _ v in
      let t₁ = or-false (list_twice item (drop 2 b)) _ t in
      let k₁ = and-true (ltb (u16 b 0) (get_or n K.BLOCK 0) && all (part_known item n) (parts_of item (drop 2 b))) _ k in
      let k₂ = and-true (ltb (u16 b 0) (get_or n K.BLOCK 0)) _ k₁.0 in
      ((there K.BLOCK (u16 b 0) k₂.0, claim_fits (drop 2 b) (v₁.0, t₁.0, k₂.1)), each_branch xs v₁.1 t₁.1 k₁.1)

  branches_fit : (bs : List ℕ) → TailPasses branches bs
      → Within 1 No.most_branches (length (branches_in bs)) × AllOf (BranchFit m) (branches_in bs)
  unfolding tail_known branches_in
  branches_fit bs t =
      let xs : List (List ℕ) = branches_from (u16 bs 0) (drop 2 bs) in
      let a = and-true (within 1 No.most_branches (u16 bs 0)) _ t.0 in
      let w : Within 1 No.most_branches (u16 bs 0) = says_within.yes a.0 in
      (omega (arith, length-map xs branch_of, branches_many (u16 bs 0) (drop 2 bs)), each_branch xs a.1 t.1 t.2)

  -- Samplers.
  sampler_fits : (bs : List ℕ) → sampler_valid (sampler_of bs) ≡ true → SamplerFit (sampler_of bs)
  sampler_fits bs s =
      let a = and-true (le_z (i32 bs 0) (i32 bs 4)) _ s in
      let b = and-true (le_z (i32 bs 4 -ℤ i32 bs 0) (pos No.top_spread)) _ a.1 in
      record {
        lowest_fits = signed_fits (u32 bs 0);
        highest_fits = signed_fits (u32 bs 4);
        not_above = a.0;
        seed_fits = says_within.yes b.1;
      }

  -- THE ROWS, in the table's order: s is that the field is in its set, k that it is known, t what the tail says.
  abbrev RowFit : Row → Type 0
  RowFit r =
      (bs : List ℕ) → in_set r.field bs ≡ true → field_known n r.naming bs ≡ true
      → TailPasses r.tail (drop r.head bs) → EntryFit m (r.says bs)

  rows_fit : AllOf RowFit table
  rows_fit =
      (λ bs s k t. (says_within.yes s).high)
      & (λ bs s k t. (says_within.yes s).high)
      & (λ bs s k t. tt)
      & (λ bs s k t. signed_fits (u32 bs 0))
      & (λ bs s k t. there K.BLOCK (u16 bs 0) k)
      & (λ bs s k t. tt)
      & (λ bs s k t. (there K.CLASS (u16 bs 0) k, (says_within.yes s).high))
      & (λ bs s k t. sampler_fits bs s)
      & (λ bs s k t. expression_fits bs t)
      & (λ bs s k t. expression_fits bs t)
      & (λ bs s k t. (there K.VAR (u16 bs 0) k, expression_fits (drop 2 bs) t))
      & (λ bs s k t. (ltb-true (u16 bs 0) No.locals k, expression_fits (drop 2 bs) t))
      & (λ bs s k t. there K.BLOCK (u16 bs 2) k)
      & (λ bs s k t. (there K.RES (u16 bs 0) k, says_within.yes s))
      & (λ bs s k t. (there K.BIN (u16 bs 0) k, says_within.yes s))
      & (λ bs s k t. (there K.SYNC (u16 bs 0) k, says_within.yes s))
      & (λ bs s k t. there K.SYNC (u16 bs 0) k)
      & (λ bs s k t. claim_fits bs t)
      & (λ bs s k t. branches_fit bs t)
      & (λ bs s k t. (there K.BLOCK (u16 bs 0) k, claim_fits (drop 2 bs) t))
      & (λ bs s k t. let h = shares_fit (drop 6 bs) t in (there K.CLASS (u16 bs 0) k, (says_within.yes s).high, h.0, h.1, h.2))
      & (λ bs s k t. expression_fits bs t)
      & (λ bs s k t. tt)
      & tt

  pub entry_fits : (seen : List ℕ) (own k : ℕ) (bs : List ℕ) → Judged seen (row_of k) bs → Named n own (row_of k) bs
      → EntryFit m ((row_of k).says bs)
  entry_fits seen own k bs h w =
      (its_row RowFit rows_fit k h.grouped).0 bs h.in_set w.field_known (h.tail_valid, h.tail_once, w.tail_known)
