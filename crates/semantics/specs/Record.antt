-- The table of record kinds (document 01, "The model file"; samplers and op 10: document 02, One): what a record of each kind
-- must be by checks 5, 6 and 7, what it names, and what it says.
-- Assumes nothing.
use Rattle.std.specs.Prelude.{ℕ, zero, suc, ◌+◌, ◌*◌, ◌/◌, ◌%◌, List, [], ◌∷◌, map, Bool, true, false, not, ◌&&◌, ◌||◌, eqb, leb, length, get_or, take, drop, ℤ, pos, ◌-ℤ◌, if◌then◌else◌}
use Rattle.std.proofs.Math.Option.{Option, none, some}
use Rattle.std.specs.Int.Signed.{le_z}
use Rattle.semantics.specs.Words.{Outcome, Passed, ◌>>◌, need, all, any, within}
use Rattle.semantics.specs.Numbers as No
use Rattle.semantics.specs.Kinds as K
use Rattle.semantics.specs.Model.{Expr, literal, global, local, add, subtract, multiply, lesser, greater, negate, draw}
use Rattle.semantics.specs.Model.{the_clock, resource, bin, sync, Relation, below, at_most, equals, differs, at_least, above}
use Rattle.semantics.specs.Model.{Item, get, condition, Claim, Branch, Share, Entity, Sampler, Action, HOLD, PRIO}
use Rattle.semantics.specs.Model.{TRACE, SET, LSET, DO, PUTR, PUTB, PUTS, BECOME, REQ, TRY, WHILE, START, CLOSE}
use Rattle.semantics.specs.Bytes.{u8, u16, u32, i32, signed, parts}

-- EXPRESSIONS: 1 to 16 nodes of 6 bytes in prefix order (u16 op, i32 operand).
pub data Node : Type 0 where
  leaf : Expr → Node
  unary : (Expr → Expr) → Node
  binary : (Expr → Expr → Expr) → Node

-- The ops 0 to 10. An unknown op is taken as a leaf. The operand of a global, a local or a draw is read as a u32: a negative one
-- is then the number of a thing that is not declared.
abbrev pub node_of : ℕ → ℕ → Node
node_of op v =
    get_or
    (leaf (literal (signed v)) ∷ leaf (global v) ∷ leaf (local v)
    ∷ binary add ∷ binary subtract ∷ binary multiply ∷ binary lesser ∷ binary greater ∷ leaf the_clock ∷ unary negate
    ∷ leaf (draw v) ∷ [])
    op
    (leaf the_clock)

-- The nodes are read from the last to the first over a pile of finished trees; none where an operand is missing.
abbrev pub onto : Node → List Expr → Option (List Expr)
onto (leaf e) es = some (e ∷ es)
onto (unary f) [] = none
onto (unary f) (a ∷ es) = some (f a ∷ es)
onto (binary f) [] = none
onto (binary f) (a ∷ []) = none
onto (binary f) (a ∷ b ∷ es) = some (f a b ∷ es)

unfoldable pub pile : List (List ℕ) → Option (List Expr)
pile [] = some []
pile (n ∷ ns) = elim (pile ns) [ none ↦ none | some es ↦ onto (node_of (u16 n 0) (u32 n 2)) es ]

abbrev pub nodes : List ℕ → List (List ℕ)
nodes bs = parts 6 (length bs / 6) bs

abbrev pub one_tree : Option (List Expr) → Bool
one_tree none = false
one_tree (some es) = eqb (length es) 1

-- The first two clauses aren't reached: SIZE asks for one tree (`sized`).
abbrev pub the_tree : Option (List Expr) → Expr
the_tree none = the_clock
the_tree (some []) = the_clock
the_tree (some (e ∷ es)) = e

-- Ops 3 to 9 carry operand 0; op 10 carries the number of a sampler.
abbrev pub node_valid : List ℕ → Bool
node_valid n = leb (u16 n 0) 2 || ((leb (u16 n 0) 9 && eqb (u32 n 2) 0) || eqb (u16 n 0) 10)

unfoldable pub expression_in : List ℕ → Expr
unfolding pile parts
expression_in bs = the_tree (pile (nodes bs))

-- CLAIMS, and what a START hands over: a u16 n, 0..4, and n parts: items of 8 bytes, or shares of 6.
pub data Part : Type 0 where
  item share : Part

abbrev pub part_size : Part → ℕ
part_size item = 8
part_size share = 6

-- An item is u8 kind, u8 relation, u16 number, i32 amount; a share is u16 resource, u32 amount.
abbrev pub part_valid : Part → List ℕ → Bool
part_valid item i =
    (leb (u8 i 0) 2 && (eqb (u8 i 1) 0 && within 1 No.top_amount (u32 i 4))) || (eqb (u8 i 0) 3 && within 1 6 (u8 i 1))
part_valid share h = within 1 No.top_amount (u32 h 2)

-- Two parts that name one resource, bin or sync.
abbrev pub same_part : Part → List ℕ → List ℕ → Bool
same_part item i j = leb (u8 i 0) 2 && (eqb (u8 i 0) (u8 j 0) && eqb (u16 i 2) (u16 j 2))
same_part share i j = eqb (u16 i 0) (u16 j 0)

unfoldable pub repeats : (List ℕ → List ℕ → Bool) → List (List ℕ) → Bool
repeats same [] = false
repeats same (x ∷ xs) = any (same x) xs || repeats same xs

-- SIZE reads the count as written.
abbrev pub parts_of : Part → List ℕ → List (List ℕ)
parts_of p bs = parts (part_size p) (u16 bs 0) (drop 2 bs)

abbrev pub list_sized : Part → List ℕ → Bool
list_sized p bs = leb 2 (length bs) && eqb (length bs) (2 + part_size p * u16 bs 0)

unfoldable pub list_valid : Part → List ℕ → Bool
unfolding parts
list_valid p bs = leb (u16 bs 0) No.most_items && all (part_valid p) (parts_of p bs)

unfoldable pub list_twice : Part → List ℕ → Bool
unfolding parts repeats
list_twice p bs = repeats (same_part p) (parts_of p bs)

-- The relations 1 to 6; no other is reached (`part_valid`).
abbrev pub relation_of : ℕ → Relation
relation_of r = get_or (equals ∷ below ∷ at_most ∷ equals ∷ differs ∷ at_least ∷ above ∷ []) r equals

abbrev pub item_of : List ℕ → Item
item_of i =
    get_or (get resource (u16 i 2) (u32 i 4) ∷ get bin (u16 i 2) (u32 i 4) ∷ get sync (u16 i 2) (u32 i 4) ∷ [])
    (u8 i 0)
    (condition (u16 i 2) (relation_of (u8 i 1)) (i32 i 4))

unfoldable pub claim_in : List ℕ → Claim
unfolding parts
claim_in bs = map item_of (parts_of item bs)

abbrev pub share_of : List ℕ → Share
share_of h = record { of = u16 h 0; amount = u32 h 2 }

unfoldable pub shares_in : List ℕ → List Share
unfolding parts
shares_in bs = map share_of (parts_of share bs)

-- BRANCHES of a TRY: a u16 n, 1..4, and n branches, each u16 block and a claim.
abbrev pub branch_size : List ℕ → ℕ
branch_size bs = 4 + 8 * u16 bs 2

-- The n branches that bs begins with; and whether they end with bs.
unfoldable pub branches_from : ℕ → List ℕ → List (List ℕ)
branches_from zero bs = []
branches_from (suc n) bs = take (branch_size bs) bs ∷ branches_from n (drop (branch_size bs) bs)

unfoldable pub branches_fit : ℕ → List ℕ → Bool
branches_fit zero bs = eqb (length bs) 0
branches_fit (suc n) bs =
    leb 4 (length bs) && (leb (branch_size bs) (length bs) && branches_fit n (drop (branch_size bs) bs))

abbrev pub branch_of : List ℕ → Branch
branch_of b = record { block = u16 b 0; claim = claim_in (drop 2 b) }

unfoldable pub branches_in : List ℕ → List Branch
unfolding branches_from claim_in
branches_in bs = map branch_of (branches_from (u16 bs 0) (drop 2 bs))

-- WHAT FOLLOWS a record's fields.
pub data Tail : Type 0 where
  nothing expression branches : Tail
  list_of : Part → Tail

abbrev pub claim : Tail
claim = list_of item

abbrev pub shares : Tail
shares = list_of share

-- 5: exactly its size. 6: its numbers in their sets. 7: one resource, bin or sync named twice in one claim, or one resource in
-- one START list.
abbrev pub sized : Tail → List ℕ → Bool
sized nothing bs = eqb (length bs) 0
sized expression bs = eqb (length bs % 6) 0 && (within 1 No.most_nodes (length bs / 6) && one_tree (pile (nodes bs)))
sized (list_of p) bs = list_sized p bs
sized branches bs = leb 2 (length bs) && branches_fit (u16 bs 0) (drop 2 bs)

abbrev pub valid : Tail → List ℕ → Bool
valid nothing bs = true
valid expression bs = all node_valid (nodes bs)
valid (list_of p) bs = list_valid p bs
valid branches bs =
    within 1 No.most_branches (u16 bs 0) && all (λ b. list_valid item (drop 2 b)) (branches_from (u16 bs 0) (drop 2 bs))

abbrev pub twice : Tail → List ℕ → Bool
twice nothing bs = false
twice expression bs = false
twice (list_of p) bs = list_twice p bs
twice branches bs = any (λ b. list_twice item (drop 2 b)) (branches_from (u16 bs 0) (drop 2 bs))

-- SAMPLERS: i32 lowest, i32 highest, u32 seed. Lowest isn't above highest, nor their difference above 1,000,000, and the seed is
-- in 1..2,147,483,646.
abbrev pub sampler_of : List ℕ → Sampler
sampler_of bs = record { lowest = i32 bs 0; highest = i32 bs 4; seed = u32 bs 8 }

abbrev pub sampler_valid : Sampler → Bool
sampler_valid x =
    le_z x.lowest x.highest
    && (le_z (x.highest -ℤ x.lowest) (pos No.top_spread) && within 1 No.last_seed x.seed)

-- A FIELD with a stated set: where it begins, and the set's ends. No kind has two, but for a sampler: its three are judged
-- together.
pub data Field : Type 0 where
  any_value : Field  -- every value may stand
  u16_in u32_in : ℕ → ℕ → ℕ → Field
  of_sampler : Field

abbrev pub in_set : Field → List ℕ → Bool
in_set any_value bs = true
in_set (u16_in at lo hi) bs = within lo hi (u16 bs at)
in_set (u32_in at lo hi) bs = within lo hi (u32 bs at)
in_set of_sampler bs = sampler_valid (sampler_of bs)

-- A FIELD THAT NAMES a thing: the kind of the record that declares such a thing, and where the u16 begins. No kind has two.
pub data Naming : Type 0 where
  nameless : Naming
  names : ℕ → ℕ → Naming
  names_local : ℕ → Naming

abbrev pub entity_of : List ℕ → Entity
entity_of bs = record { class = u16 bs 0; offset = u32 bs 2 }

-- A record, understood.
pub data Entry : Type 0 where
  RES BIN : ℕ → Entry
  SYNC : Entry
  VAR : ℤ → Entry
  CLASS : ℕ → Entry
  BLOCK : Entry
  ENTITY : Entity → Entry
  SAMPLER : Sampler → Entry
  ACTION : Action → Entry

-- THE TABLE. `most` is how many records there may be of `group`: a declaration and BLOCK are their own, all actions are one.
-- A body is `head` bytes of fields and then its tail.
pub record Row : Type 0 where
  pub kind : ℕ
  pub group : ℕ
  pub most : ℕ
  pub head : ℕ
  pub field : Field
  pub naming : Naming
  pub tail : Tail
  pub says : List ℕ → Entry

abbrev declares : ℕ → ℕ → ℕ → Field → Naming → (List ℕ → Entry) → Row
declares k n h f x e = record { kind = k; group = k; most = n; head = h; field = f; naming = x; tail = nothing; says = e }

abbrev acts : ℕ → ℕ → Field → Naming → Tail → (List ℕ → Action) → Row
acts k h f x t a =
    record {
      kind = k;
      group = K.ACTION;
      most = No.most_actions;
      head = h;
      field = f;
      naming = x;
      tail = t;
      says = λ bs. ACTION (a bs);
    }

abbrev pub table : List Row
table =
    declares K.RES No.most_things 4 (u32_in 0 0 No.top_amount) nameless (λ bs. RES (u32 bs 0))
    ∷ declares K.BIN No.most_things 4 (u32_in 0 0 No.top_amount) nameless (λ bs. BIN (u32 bs 0))
    ∷ declares K.SYNC No.most_things 0 any_value nameless (λ bs. SYNC)
    ∷ declares K.VAR No.most_things 4 any_value nameless (λ bs. VAR (i32 bs 0))
    ∷ declares K.CLASS No.most_classes 2 any_value (names K.BLOCK 0) (λ bs. CLASS (u16 bs 0))
    ∷ declares K.BLOCK No.most_blocks 0 any_value nameless (λ bs. BLOCK)
    ∷ declares K.ENTITY No.most_entities 6 (u32_in 2 0 No.top_amount) (names K.CLASS 0) (λ bs. ENTITY (entity_of bs))
    ∷ declares K.SAMPLER No.most_samplers 12 of_sampler nameless (λ bs. SAMPLER (sampler_of bs))
    ∷ acts K.HOLD 0 any_value nameless expression (λ bs. HOLD (expression_in bs))
    ∷ acts K.PRIO 0 any_value nameless expression (λ bs. PRIO (expression_in bs))
    ∷ acts K.SET 2 any_value (names K.VAR 0) expression (λ bs. SET (u16 bs 0) (expression_in (drop 2 bs)))
    ∷ acts K.LSET 2 any_value (names_local 0) expression (λ bs. LSET (u16 bs 0) (expression_in (drop 2 bs)))
    ∷ acts K.DO 4 any_value (names K.BLOCK 2) nothing (λ bs. DO (u16 bs 0) (u16 bs 2))
    ∷ acts K.PUTR 6 (u32_in 2 1 No.top_amount) (names K.RES 0) nothing (λ bs. PUTR (u16 bs 0) (u32 bs 2))
    ∷ acts K.PUTB 6 (u32_in 2 1 No.top_amount) (names K.BIN 0) nothing (λ bs. PUTB (u16 bs 0) (u32 bs 2))
    ∷ acts K.PUTS 4 (u16_in 2 1 No.most_slaves) (names K.SYNC 0) nothing (λ bs. PUTS (u16 bs 0) (u16 bs 2))
    ∷ acts K.BECOME 2 any_value (names K.SYNC 0) nothing (λ bs. BECOME (u16 bs 0))
    ∷ acts K.REQ 0 any_value nameless claim (λ bs. REQ (claim_in bs))
    ∷ acts K.TRY 0 any_value nameless branches (λ bs. TRY (branches_in bs))
    ∷ acts K.WHILE 2 any_value (names K.BLOCK 0) claim (λ bs. WHILE (u16 bs 0) (claim_in (drop 2 bs)))
    ∷ acts K.START 6 (u32_in 2 0 No.top_amount) (names K.CLASS 0) shares (λ bs. START (u16 bs 0) (u32 bs 2) (shares_in (drop 6 bs)))
    ∷ acts K.TRACE 0 any_value nameless expression (λ bs. TRACE (expression_in bs))
    ∷ acts K.CLOSE 0 any_value nameless nothing (λ bs. CLOSE)
    ∷ []

-- The row of what is no kind: of group 0, which KIND refuses (`judged`), so that what it says is never read.
abbrev pub no_row : Row
no_row = record { kind = 0; group = 0; most = 0; head = 0; field = any_value; naming = nameless; tail = nothing; says = λ bs. SYNC }

abbrev pub row_in : List Row → ℕ → Row
row_in [] k = no_row
row_in (r ∷ rs) k = if eqb k r.kind then r else row_in rs k

unfoldable pub row_of : ℕ → Row
unfolding expression_in claim_in shares_in branches_in
row_of k = row_in table k

-- Checks 5, 6 and 7 on a body.
unfoldable pub body_judged : Row → List ℕ → Outcome Passed
unfolding pile branches_from branches_fit parts list_valid list_twice
body_judged r bs = do
  need No.SIZE (leb r.head (length bs) && sized r.tail (drop r.head bs))
  need No.VALUE (in_set r.field bs && valid r.tail (drop r.head bs))
  need No.TWICE (not (twice r.tail (drop r.head bs)))
