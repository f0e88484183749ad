-- A record whose names are all known, and whose blocks come later, passes checks 8 and 9; a class without a body doesn't.
-- Assumes nothing.
use Prim.Native.Nat.{ℕ, suc, ◌+◌, ◌≤◌, ◌<◌}
use native.Mathlib.Omega.{arith}
use Rattle.std.specs.Prelude.{◌≡◌, Bool, true, ◌&&◌, leb, ltb, length, get_or, drop}
use Rattle.std.proofs.Math.Path.{refl, ap}
use Rattle.std.proofs.Common.{◌∙◌}
use mathlib.Core.List.{List, [], ◌∷◌, ◌++◌, map, append_assoc, append-nil}
use borrow.Author.Tests.{lt-ltb, le-ltb, le-leb}
use Rattle.semantics.specs.Words.{ok, fails, passed, ◌>>◌, need, all, collect}
use Rattle.semantics.specs.Numbers as No
use Rattle.semantics.specs.Kinds as K
use Rattle.semantics.specs.Model as M
use Rattle.semantics.specs.Model.{Expr, Item, Branch, Share, Action}
use Rattle.semantics.specs.Bytes.{u16, parts}
use Rattle.semantics.specs.Record as R
use Rattle.semantics.specs.Record.{Entry, Part, item, share, part_size, parts_of, row_of}
use Rattle.semantics.specs.Decode.{node_known, part_known, tail_known, field_known, inner_of, named}
use Rattle.promises.specs.Laws.{true-and, AllOf}
use Rattle.text_semantics.specs.Written.{two, code, node, nodes_of, item_bytes, counted, claim_bytes, branch_bytes}
use Rattle.text_semantics.specs.Written.{share_bytes, action_body, kind_of, body_of}
use Rattle.text_promises.specs.Says.{Fits, u16_back, u32_back, size, nodes_are, parts_back, item_long, share_long}
use Rattle.text_promises.specs.Says.{branches_back, says_back}

-- WHAT IS KNOWN, where n has how many records there are of each group, and own BLOCKs stand before.
module _ (n : List ℕ) (own : ℕ) where
  abbrev pub In : ℕ → ℕ → Type 0
  In g i = i < get_or n g 0

  abbrev pub ExprKnown : Expr → Type 0
  ExprKnown (M.literal z) = Unit {0}
  ExprKnown (M.global i) = In K.VAR i
  ExprKnown (M.local i) = i < No.locals
  ExprKnown (M.add a b) = ExprKnown a × ExprKnown b
  ExprKnown (M.subtract a b) = ExprKnown a × ExprKnown b
  ExprKnown (M.multiply a b) = ExprKnown a × ExprKnown b
  ExprKnown (M.lesser a b) = ExprKnown a × ExprKnown b
  ExprKnown (M.greater a b) = ExprKnown a × ExprKnown b
  ExprKnown M.the_clock = Unit {0}
  ExprKnown (M.negate a) = ExprKnown a
  ExprKnown (M.draw i) = In K.SAMPLER i

  abbrev pub ItemKnown : Item → Type 0
  ItemKnown (M.get M.resource i v) = In K.RES i
  ItemKnown (M.get M.bin i v) = In K.BIN i
  ItemKnown (M.get M.sync i v) = In K.SYNC i
  ItemKnown (M.condition i r z) = In K.VAR i

  abbrev pub ClaimKnown : M.Claim → Type 0
  ClaimKnown c = AllOf ItemKnown c

  -- A block that is there, and later.
  abbrev pub Later : ℕ → Type 0
  Later b = In K.BLOCK b × (own ≤ b)

  abbrev pub BranchKnown : Branch → Type 0
  BranchKnown b = Later b.block × ClaimKnown b.claim

  abbrev pub ActionKnown : Action → Type 0
  ActionKnown (M.HOLD e) = ExprKnown e
  ActionKnown (M.PRIO e) = ExprKnown e
  ActionKnown (M.TRACE e) = ExprKnown e
  ActionKnown (M.SET i e) = In K.VAR i × ExprKnown e
  ActionKnown (M.LSET i e) = (i < No.locals) × ExprKnown e
  ActionKnown (M.DO c b) = Later b
  ActionKnown (M.PUTR i v) = In K.RES i
  ActionKnown (M.PUTB i v) = In K.BIN i
  ActionKnown (M.PUTS i v) = In K.SYNC i
  ActionKnown (M.BECOME i) = In K.SYNC i
  ActionKnown (M.REQ c) = ClaimKnown c
  ActionKnown (M.TRY bs) = AllOf BranchKnown bs
  ActionKnown (M.WHILE b c) = Later b × ClaimKnown c
  ActionKnown (M.START c t h) = In K.CLASS c × AllOf (λ x. In K.RES x.of) h
  ActionKnown M.CLOSE = Unit {0}

  abbrev pub EntryKnown : Entry → Type 0
  EntryKnown (R.RES v) = Unit {0}
  EntryKnown (R.BIN v) = Unit {0}
  EntryKnown R.SYNC = Unit {0}
  EntryKnown (R.VAR v) = Unit {0}
  EntryKnown (R.CLASS b) = In K.BLOCK b
  EntryKnown R.BLOCK = Unit {0}
  EntryKnown (R.ENTITY e) = In K.CLASS e.class
  EntryKnown (R.SAMPLER x) = Unit {0}
  EntryKnown (R.ACTION a) = ActionKnown a

  -- EXPRESSIONS.
  abbrev node_in : List ℕ → Bool
  node_in d = node_known (get_or n K.VAR 0) (get_or n K.SAMPLER 0) d

  one_known : (op v m : ℕ) (bs : List ℕ) → node_in (node op v) ≡ true
      → all node_in (parts 6 (suc m) (node op v ++ bs)) ≡ all node_in (parts 6 m bs)
  unfolding parts
  one_known op v m bs e = rw e

  leaf_known : (op v m : ℕ) (bs : List ℕ) → node_in (node op v) ≡ true
      → all node_in (parts 6 (1 + m) (node op v ++ bs)) ≡ all node_in (parts 6 m bs)
  leaf_known op v m bs e = let s : 1 + m ≡ suc m = omega arith in rw s (one_known op v m bs e)

  abbrev Knows : Expr → Type 0
  Knows e = (m : ℕ) (bs : List ℕ) → all node_in (parts 6 (size e + m) (nodes_of e ++ bs)) ≡ all node_in (parts 6 m bs)

  two_known : (op : ℕ) (a b : Expr) → node_in (node op 0) ≡ true → Knows a → Knows b → (m : ℕ) (bs : List ℕ)
      → all node_in (parts 6 (suc (size a + size b) + m) ((node op 0 ++ nodes_of a ++ nodes_of b) ++ bs))
      ≡ all node_in (parts 6 m bs)
  two_known op a b e p q m bs =
      let s : suc (size a + size b) + m ≡ suc (size a + (size b + m)) = omega arith in
      rw (s, append_assoc (nodes_of a) (nodes_of b) bs)
      (one_known op 0 (size a + (size b + m)) (nodes_of a ++ (nodes_of b ++ bs)) e
      ∙ p (size b + m) (nodes_of b ++ bs)
      ∙ q m bs)

  nodes_known : (e : Expr) → ExprKnown e → Knows e
  unfolding nodes_of
  nodes_known (M.literal z) h m bs = leaf_known 0 (code z) m bs refl
  nodes_known (M.global i) h m bs =
      leaf_known 1 i m bs (rw (u32_back i [], lt-ltb i (get_or n K.VAR 0) h))
  nodes_known (M.local i) h m bs = leaf_known 2 i m bs (rw (u32_back i [], lt-ltb i No.locals h))
  nodes_known (M.add a b) h m bs = two_known 3 a b refl (nodes_known a h.0) (nodes_known b h.1) m bs
  nodes_known (M.subtract a b) h m bs = two_known 4 a b refl (nodes_known a h.0) (nodes_known b h.1) m bs
  nodes_known (M.multiply a b) h m bs = two_known 5 a b refl (nodes_known a h.0) (nodes_known b h.1) m bs
  nodes_known (M.lesser a b) h m bs = two_known 6 a b refl (nodes_known a h.0) (nodes_known b h.1) m bs
  nodes_known (M.greater a b) h m bs = two_known 7 a b refl (nodes_known a h.0) (nodes_known b h.1) m bs
  nodes_known M.the_clock h m bs = leaf_known 8 0 m bs refl
  nodes_known (M.negate a) h m bs =
      let s : suc (size a) + m ≡ suc (size a + m) = omega arith in
      rw s (one_known 9 0 (size a + m) (nodes_of a ++ bs) refl ∙ nodes_known a h m bs)
  nodes_known (M.draw i) h m bs = leaf_known 10 i m bs (rw (u32_back i [], lt-ltb i (get_or n K.SAMPLER 0) h))

  expression_known : (e : Expr) → ExprKnown e → tail_known n R.expression (nodes_of e) ≡ true
  unfolding tail_known parts
  expression_known e h =
      let s : size e + 0 ≡ size e = omega arith in
      ap (all node_in) (nodes_are e) ∙ (rw (s, append-nil) at (nodes_known e h 0 []))

  -- LISTS of items and shares, and branches.
  each_told : {A : Type 0} (P : A → Type 0) (f : A → List ℕ) (q : List ℕ → Bool) → ((x : A) → P x → q (f x) ≡ true)
      → (xs : List A) → AllOf P xs → all q (map f xs) ≡ true
  each_told P f q h [] a = refl
  each_told P f q h (x ∷ xs) a = true-and (q (f x)) (all q (map f xs)) (h x a.0) (each_told P f q h xs a.1)

  list_known : {A : Type 0} (p : Part) (f : A → List ℕ) → ((x : A) → length (f x) ≡ part_size p) → (P : A → Type 0)
      → ((x : A) → P x → part_known p n (f x) ≡ true) → (xs : List A) → AllOf P xs
      → all (part_known p n) (parts_of p (counted f xs)) ≡ true
  list_known p f l P h xs a =
      rw (u16_back (length xs) (collect f xs), parts_back (part_size p) f l xs) (each_told P f (part_known p n) h xs a)

  item_known : (i : Item) → ItemKnown i → part_known item n (item_bytes i) ≡ true
  item_known (M.get M.resource i v) h = rw (u16_back i []) (lt-ltb i _ h)
  item_known (M.get M.bin i v) h = rw (u16_back i []) (lt-ltb i _ h)
  item_known (M.get M.sync i v) h = rw (u16_back i []) (lt-ltb i _ h)
  item_known (M.condition i r z) h = rw (u16_back i []) (lt-ltb i _ h)

  claim_known : (c : M.Claim) → ClaimKnown c → all (part_known item n) (parts_of item (claim_bytes c)) ≡ true
  claim_known c h = list_known item item_bytes item_long ItemKnown item_known c h

  shares_known : (hs : List Share) → AllOf (λ x. In K.RES x.of) hs → tail_known n R.shares (counted share_bytes hs) ≡ true
  unfolding tail_known
  shares_known hs h =
      list_known share share_bytes share_long (λ x. In K.RES x.of) (λ x a. rw (u16_back x.of []) (lt-ltb x.of _ a)) hs h

  abbrev branch_in : List ℕ → Bool
  branch_in b = ltb (u16 b 0) (get_or n K.BLOCK 0) && all (part_known item n) (parts_of item (drop 2 b))

  branch_known : (b : Branch) → BranchKnown b → branch_in (branch_bytes b) ≡ true
  branch_known b h =
      let e : ltb (u16 (branch_bytes b) 0) (get_or n K.BLOCK 0) ≡ true =
      rw (u16_back b.block []) (lt-ltb b.block _ h.0.0) in
      true-and (ltb (u16 (branch_bytes b) 0) (get_or n K.BLOCK 0)) _ e (claim_known b.claim h.1)

  branches_known : (bs : List Branch) → AllOf BranchKnown bs → tail_known n R.branches (counted branch_bytes bs) ≡ true
  unfolding tail_known
  branches_known bs h =
      rw (u16_back (length bs) (collect branch_bytes bs), branches_back bs)
      (each_told BranchKnown branch_bytes branch_in branch_known bs h)

  branches_later : (bs : List Branch) → AllOf BranchKnown bs → all (leb own) (map (λ b. b.block) bs) ≡ true
  branches_later [] h = refl
  branches_later (b ∷ bs) h = true-and _ _ (le-leb own b.block h.0.0.1) (branches_later bs h.1)

  -- RECORDS: the field that names something, what follows the fields, and the blocks.
  passes : (k : ℕ) (bs : List ℕ) → field_known n (row_of k).naming bs ≡ true
      → tail_known n (row_of k).tail (drop (row_of k).head bs) ≡ true → all (leb own) (inner_of ((row_of k).says bs)) ≡ true
      → named n own k bs ≡ ok passed
  unfolding named need ◌>>◌
  passes k bs f t o = rw (f, t, o)

  one_later : (b : ℕ) → Later b → all (leb own) (b ∷ []) ≡ true
  one_later b h = true-and (leb own b) true (le-leb own b h.1) refl

  abbrev Checks : Entry → Type 0
  Checks e =
      (field_known n (row_of (kind_of e)).naming (body_of e) ≡ true)
      × (tail_known n (row_of (kind_of e)).tail (drop (row_of (kind_of e)).head (body_of e)) ≡ true)
      × (all (leb own) (inner_of e) ≡ true)

  checks : (e : Entry) → EntryKnown e → Checks e
  unfolding row_of body_of action_body tail_known
  checks (R.RES v) h = (refl, refl, refl)
  checks (R.BIN v) h = (refl, refl, refl)
  checks R.SYNC h = (refl, refl, refl)
  checks (R.VAR v) h = (refl, refl, refl)
  checks (R.CLASS b) h = (rw (u16_back b []) (lt-ltb b _ h), refl, refl)
  checks R.BLOCK h = (refl, refl, refl)
  checks (R.ENTITY e) h = (rw (u16_back e.class []) (lt-ltb e.class _ h), refl, refl)
  checks (R.SAMPLER x) h = (refl, refl, refl)
  checks (R.ACTION (M.HOLD e)) h = (refl, expression_known e h, refl)
  checks (R.ACTION (M.PRIO e)) h = (refl, expression_known e h, refl)
  checks (R.ACTION (M.TRACE e)) h = (refl, expression_known e h, refl)
  checks (R.ACTION (M.SET i e)) h = (rw (u16_back i []) (lt-ltb i _ h.0), expression_known e h.1, refl)
  checks (R.ACTION (M.LSET i e)) h = (rw (u16_back i []) (lt-ltb i _ h.0), expression_known e h.1, refl)
  checks (R.ACTION (M.DO c b)) h = (rw (u16_back b []) (lt-ltb b _ h.0), refl, one_later b h)
  checks (R.ACTION (M.PUTR i v)) h = (rw (u16_back i []) (lt-ltb i _ h), refl, refl)
  checks (R.ACTION (M.PUTB i v)) h = (rw (u16_back i []) (lt-ltb i _ h), refl, refl)
  checks (R.ACTION (M.PUTS i v)) h = (rw (u16_back i []) (lt-ltb i _ h), refl, refl)
  checks (R.ACTION (M.BECOME i)) h = (rw (u16_back i []) (lt-ltb i _ h), refl, refl)
  checks (R.ACTION (M.REQ c)) h = (refl, claim_known c h, refl)
  checks (R.ACTION (M.TRY bs)) h = (refl, branches_known bs h, branches_later bs h)
  checks (R.ACTION (M.WHILE b c)) h = (rw (u16_back b []) (lt-ltb b _ h.0.0), claim_known c h.1, one_later b h.0)
  checks (R.ACTION (M.START c t x)) h = (rw (u16_back c []) (lt-ltb c _ h.0), shares_known x h.1, refl)
  checks (R.ACTION M.CLOSE) h = (refl, refl, refl)

  pub entry_passes : (e : Entry) → Fits e → EntryKnown e → named n own (kind_of e) (body_of e) ≡ ok passed
  entry_passes e f h =
      let c = checks e h in
      passes (kind_of e) (body_of e) c.0 c.1 (ap (λ x. all (leb own) (inner_of x)) (says_back e f) ∙ c.2)

  -- A class whose block isn't there.
  pub class_fails : (b : ℕ) → get_or n K.BLOCK 0 ≤ b → named n own K.CLASS (two b) ≡ fails No.NAME
  unfolding named need ◌>>◌ row_of
  class_fails b h = rw (u16_back b [], le-ltb b (get_or n K.BLOCK 0) h)
