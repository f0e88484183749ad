-- When what is written for an entry is good, by what the entry says; so a good body is short, and a good TRY stays good with its
-- first branches alone.
-- Assumes nothing.
use Rattle.std.specs.Prelude.{ℕ, zero, suc, ◌+◌, ◌*◌, ◌/◌, ◌%◌, ◌≤◌, ◌≡◌, refl, List, [], ◌∷◌, ◌++◌, map, Bool, true, false, not, ◌&&◌, ◌||◌, eqb, leb, length, take, drop}
use Rattle.std.proofs.Common.{arith, sym, ap, ◌∙◌, append_assoc, append-nil, leb-true, le-leb, eq-eqb, length-append, length-take, drop_at}
use Rattle.std.proofs.Math.Seq.{drop-length}
use Rattle.semantics.specs.Words.{◌>>◌, need, all, any, ordered, collect, within}
use Rattle.semantics.specs.Numbers as No
use Rattle.semantics.specs.Kinds as K
use Rattle.semantics.specs.Model as M
use Rattle.semantics.specs.Model.{Expr, Item, Branch, Share, Action}
use Rattle.semantics.specs.Bytes.{parts}
use Rattle.semantics.specs.Record as R
use Rattle.semantics.specs.Record.{Entry, Row, node_valid, nodes, one_tree, Part, item, share, part_size, part_valid, same_part}
use Rattle.semantics.specs.Record.{repeats, list_sized, list_valid, list_twice, branches_fit, sized, valid, twice, sampler_valid}
use Rattle.semantics.specs.Record.{in_set, row_of, body_judged}
use Rattle.promises.specs.Laws.{and-true, true-and}
use Rattle.promises.specs.Fit.{clash}
use Rattle.text_semantics.specs.Written.{two, four, code, node, nodes_of, item_bytes, counted, claim_bytes, branch_bytes}
use Rattle.text_semantics.specs.Written.{share_bytes, action_body, kind_of, body_of}
use Rattle.text_promises.specs.Judged.{passes, good}
use Rattle.text_promises.specs.Says.{ExprFits, ActionFits, Fits, u16_back, u32_back, i32_back, size, size_long, nodes_are}
use Rattle.text_promises.specs.Says.{one_pile, parts_back, parts_long, item_long, share_long, branch_long, branch_size_lem}
use Rattle.text_promises.specs.Says.{branches_back}

-- WHAT IS GOOD, by what it says.
abbrev pub item_good : Item → Bool
item_good (M.get k i n) = within 1 No.top_amount n
item_good (M.condition i r z) = true

-- At most 4 items, and no two that name one resource, bin or sync.
abbrev pub claim_good : M.Claim → Bool
claim_good c = leb (length c) No.most_items && (all item_good c && ordered (λ x y. not (clash x y)) c)

abbrev pub shares_good : List Share → Bool
shares_good hs =
    leb (length hs) No.most_items
    && (all (λ h. within 1 No.top_amount h.amount) hs && ordered (λ x y. not (eqb x.of y.of)) hs)

abbrev pub action_good : Action → Bool
action_good (M.HOLD e) = within 1 No.most_nodes (size e)
action_good (M.PRIO e) = within 1 No.most_nodes (size e)
action_good (M.TRACE e) = within 1 No.most_nodes (size e)
action_good (M.SET i e) = within 1 No.most_nodes (size e)
action_good (M.LSET i e) = within 1 No.most_nodes (size e)
action_good (M.DO n b) = true
action_good (M.PUTR i n) = within 1 No.top_amount n
action_good (M.PUTB i n) = within 1 No.top_amount n
action_good (M.PUTS i n) = within 1 No.most_slaves n
action_good (M.BECOME i) = true
action_good (M.REQ c) = claim_good c
action_good (M.TRY bs) = within 1 No.most_branches (length bs) && all (λ b. claim_good b.claim) bs
action_good (M.WHILE b c) = claim_good c
action_good (M.START c t h) = within 0 No.top_amount t && shares_good h
action_good M.CLOSE = true

abbrev pub entry_good : Entry → Bool
entry_good (R.RES n) = within 0 No.top_amount n
entry_good (R.BIN n) = within 0 No.top_amount n
entry_good R.SYNC = true
entry_good (R.VAR v) = true
entry_good (R.CLASS b) = true
entry_good R.BLOCK = true
entry_good (R.ENTITY e) = within 0 No.top_amount e.offset
entry_good (R.SAMPLER x) = sampler_valid x
entry_good (R.ACTION a) = action_good a

-- TESTS.
and-true_right : (x : Bool) → x && true ≡ x
and-true_right true = refl
and-true_right false = refl

or_none : (x : Bool) → x || false ≡ x
or_none true = refl
or_none false = refl

and_assoc : (x y z : Bool) → (x && y) && z ≡ x && (y && z)
and_assoc true y z = refl
and_assoc false y z = refl

all_map : {A B : Type 0} (f : A → B) (p : B → Bool) (q : A → Bool) → ((x : A) → p (f x) ≡ q x) → (xs : List A)
    → all p (map f xs) ≡ all q xs
all_map f p q h [] = refl
all_map f p q h (x ∷ xs) = rw (h x, all_map f p q h xs)

all_same : {A : Type 0} (p q : A → Bool) → ((x : A) → p x ≡ q x) → (xs : List A) → all p xs ≡ all q xs
all_same p q h [] = refl
all_same p q h (x ∷ xs) = rw (h x, all_same p q h xs)

any_map : {A B : Type 0} (f : A → B) (p : B → Bool) (q : A → Bool) → ((x : A) → p (f x) ≡ q x) → (xs : List A)
    → any p (map f xs) ≡ any q xs
any_map f p q h [] = refl
any_map f p q h (x ∷ xs) = rw (h x, any_map f p q h xs)

not-any : {A : Type 0} (p : A → Bool) (xs : List A) → not (any p xs) ≡ all (λ x. not (p x)) xs
not-any p [] = refl
not-any p (x ∷ xs) = go (p x) (not-any p xs)
  where
    go : (b : Bool) → not (any p xs) ≡ all (λ x. not (p x)) xs → not (b || any p xs) ≡ not b && all (λ x. not (p x)) xs
    go true ih = refl
    go false ih = ih

all_both : {A : Type 0} (p q : A → Bool) (xs : List A) → all p xs && all q xs ≡ all (λ x. p x && q x) xs
all_both p q [] = refl
all_both p q (x ∷ xs) = go (p x) (q x) (all p xs) (all_both p q xs)
  where
    go : (a b c : Bool) → c && all q xs ≡ all (λ x. p x && q x) xs
        → (a && c) && (b && all q xs) ≡ (a && b) && all (λ x. p x && q x) xs
    go true true c ih = ih
    go true false true ih = refl
    go true false false ih = refl
    go false b c ih = refl

-- No two of a list are the same.
not-repeats : {A : Type 0} (f : A → List ℕ) (same : List ℕ → List ℕ → Bool) (meet : A → A → Bool)
    → ((x y : A) → same (f x) (f y) ≡ meet x y) → (xs : List A)
    → not (repeats same (map f xs)) ≡ ordered (λ x y. not (meet x y)) xs
unfolding repeats
not-repeats f same meet h [] = refl
not-repeats f same meet h (x ∷ xs) =
    rw (any_map f (same (f x)) (meet x) (h x) xs)
    (go (any (meet x) xs) ∙ rw (not-any (meet x) xs, not-repeats f same meet h xs))
  where
    go : (b : Bool) → not (b || repeats same (map f xs)) ≡ not b && not (repeats same (map f xs))
    go true = refl
    go false = refl

-- A BODY, by a row of the table: whether its size is right, its field in its set, and its tail valid with nothing twice.
three : (x i v t : Bool)
    → passes (do
      need No.SIZE x
      need No.VALUE (i && v)
      need No.TWICE t)
    ≡ x && (i && (v && t))
unfolding ◌>>◌ need
three true true true true = refl
three true true true false = refl
three true true false t = refl
three true false v t = refl
three false i v t = refl

module _ (r : Row) (bs : List ℕ) where
  abbrev rest : List ℕ
  rest = drop r.head bs

  judged_is : (size field tail : Bool) → r.head ≤ length bs → sized r.tail rest ≡ size → in_set r.field bs ≡ field
      → valid r.tail rest && not (twice r.tail rest) ≡ tail → passes (body_judged r bs) ≡ size && (field && tail)
  unfolding body_judged
  judged_is size field tail h s b c =
      three (leb r.head (length bs) && sized r.tail rest) (in_set r.field bs) (valid r.tail rest)
      (not (twice r.tail rest))
      ∙ rw (le-leb r.head (length bs) h, s, b, c)

-- EXPRESSIONS: the nodes are right by their making, and their number is what is judged.
one_valid : (op v n : ℕ) (bs : List ℕ) → node_valid (node op v) ≡ true
    → all node_valid (parts 6 (suc n) (node op v ++ bs)) ≡ all node_valid (parts 6 n bs)
unfolding parts
one_valid op v n bs e = rw e

leaf_valid : (op v n : ℕ) (bs : List ℕ) → node_valid (node op v) ≡ true
    → all node_valid (parts 6 (1 + n) (node op v ++ bs)) ≡ all node_valid (parts 6 n bs)
leaf_valid op v n bs e = let s : 1 + n ≡ suc n = omega arith in rw s (one_valid op v n bs e)

abbrev Valid : Expr → Type 0
Valid e = (n : ℕ) (bs : List ℕ) → all node_valid (parts 6 (size e + n) (nodes_of e ++ bs)) ≡ all node_valid (parts 6 n bs)

two_valid : (op : ℕ) (a b : Expr) → node_valid (node op 0) ≡ true → Valid a → Valid b → (n : ℕ) (bs : List ℕ)
    → all node_valid (parts 6 (suc (size a + size b) + n) ((node op 0 ++ nodes_of a ++ nodes_of b) ++ bs))
    ≡ all node_valid (parts 6 n bs)
two_valid op a b e p q n bs =
    let s : suc (size a + size b) + n ≡ suc (size a + (size b + n)) = omega arith in
    rw (s, append_assoc (nodes_of a) (nodes_of b) bs)
    (one_valid op 0 (size a + (size b + n)) (nodes_of a ++ (nodes_of b ++ bs)) e
    ∙ p (size b + n) (nodes_of b ++ bs)
    ∙ q n bs)

nodes_valid : (e : Expr) → Valid e
unfolding nodes_of
nodes_valid (M.literal z) n bs = leaf_valid 0 (code z) n bs refl
nodes_valid (M.global i) n bs = leaf_valid 1 i n bs refl
nodes_valid (M.local i) n bs = leaf_valid 2 i n bs refl
nodes_valid (M.add a b) n bs = two_valid 3 a b refl (nodes_valid a) (nodes_valid b) n bs
nodes_valid (M.subtract a b) n bs = two_valid 4 a b refl (nodes_valid a) (nodes_valid b) n bs
nodes_valid (M.multiply a b) n bs = two_valid 5 a b refl (nodes_valid a) (nodes_valid b) n bs
nodes_valid (M.lesser a b) n bs = two_valid 6 a b refl (nodes_valid a) (nodes_valid b) n bs
nodes_valid (M.greater a b) n bs = two_valid 7 a b refl (nodes_valid a) (nodes_valid b) n bs
nodes_valid M.the_clock n bs = leaf_valid 8 0 n bs refl
nodes_valid (M.negate a) n bs =
    let s : suc (size a) + n ≡ suc (size a + n) = omega arith in
    rw s (one_valid 9 0 (size a + n) (nodes_of a ++ bs) refl ∙ nodes_valid a n bs)
nodes_valid (M.draw i) n bs = leaf_valid 10 i n bs refl

all_valid : (e : Expr) → all node_valid (nodes (nodes_of e)) ≡ true
unfolding parts
all_valid e =
    let s : size e + 0 ≡ size e = omega arith in
    ap (all node_valid) (nodes_are e) ∙ (rw (s, append-nil) at (nodes_valid e 0 []))

expression_good : (e : Expr) → ExprFits e
    → (sized R.expression (nodes_of e) ≡ within 1 No.most_nodes (size e))
    × (valid R.expression (nodes_of e) && not (twice R.expression (nodes_of e)) ≡ true)
expression_good e h =
    let l = size_long e in
    let m : length (nodes_of e) % 6 ≡ 0 = omega arith in
    let d : length (nodes_of e) / 6 ≡ size e = omega arith in
    let p = one_pile e h in (
      ap (λ x. eqb (length (nodes_of e) % 6) 0 && (within 1 No.most_nodes (length (nodes_of e) / 6) && one_tree x)) p
          ∙ rw (m, d) (and-true_right (within 1 No.most_nodes (size e))),
      rw (all_valid e),
    )

-- A body that is fields alone, and one that ends in an expression.
with_field : (r : Row) (bs : List ℕ) (field : Bool) → r.head ≡ length bs → r.tail ≡ R.nothing → in_set r.field bs ≡ field
    → passes (body_judged r bs) ≡ field
with_field r bs field h t f =
    let e : drop r.head bs ≡ [] = rw h (drop-length bs) in
    judged_is r bs true field true (omega arith) (rw (t, e)) f (rw t) ∙ and-true_right field

with_expression : (r : Row) (front : List ℕ) (e : Expr) → ExprFits e → r.head ≡ length front → r.tail ≡ R.expression
    → r.field ≡ R.any_value → passes (body_judged r (front ++ nodes_of e)) ≡ within 1 No.most_nodes (size e)
with_expression r front e h l t f =
    let a = length-append front (nodes_of e) in
    let d : drop r.head (front ++ nodes_of e) ≡ nodes_of e = drop_at front (nodes_of e) r.head (sym l) in
    let x = expression_good e h in
    judged_is r (front ++ nodes_of e) (within 1 No.most_nodes (size e)) true true (omega arith) (rw (t, d) x.0) (rw f)
    (rw (t, d) x.1)
    ∙ and-true_right (within 1 No.most_nodes (size e))

-- LISTS: the size is right by their making.
list_sized_lem : {A : Type 0} (p : Part) (f : A → List ℕ) → ((x : A) → length (f x) ≡ part_size p) → (xs : List A)
    → list_sized p (counted f xs) ≡ true
list_sized_lem p f h xs =
    let l = parts_long (part_size p) f h xs in
    let u = u16_back (length xs) (collect f xs) in
    let a : 2 ≤ length (counted f xs) = omega arith in
    let b : length (counted f xs) ≡ 2 + part_size p * length xs = omega arith in
    true-and _ _ (le-leb _ _ a) (rw u (eq-eqb _ _ b))

list_good : {A : Type 0} (p : Part) (f : A → List ℕ) → ((x : A) → length (f x) ≡ part_size p) → (v : A → Bool)
    → ((x : A) → part_valid p (f x) ≡ v x) → (m : A → A → Bool) → ((x y : A) → same_part p (f x) (f y) ≡ m x y) → (xs : List A)
    → list_valid p (counted f xs) && not (list_twice p (counted f xs))
    ≡ leb (length xs) No.most_items && (all v xs && ordered (λ x y. not (m x y)) xs)
unfolding list_valid list_twice
list_good p f h v vs m ms xs =
    rw (u16_back (length xs) (collect f xs), parts_back (part_size p) f h xs, all_map f (part_valid p) v vs xs)
    (rw (not-repeats f (same_part p) m ms xs) (and_assoc (leb (length xs) No.most_items) (all v xs) _))

item_valid : (i : Item) → part_valid item (item_bytes i) ≡ item_good i
item_valid (M.get M.resource i n) = rw (u32_back n []) (or_none (within 1 No.top_amount n))
item_valid (M.get M.bin i n) = rw (u32_back n []) (or_none (within 1 No.top_amount n))
item_valid (M.get M.sync i n) = rw (u32_back n []) (or_none (within 1 No.top_amount n))
item_valid (M.condition i M.below z) = refl
item_valid (M.condition i M.at_most z) = refl
item_valid (M.condition i M.equals z) = refl
item_valid (M.condition i M.differs z) = refl
item_valid (M.condition i M.at_least z) = refl
item_valid (M.condition i M.above z) = refl

item_same : (x y : Item) → same_part item (item_bytes x) (item_bytes y) ≡ clash x y
item_same (M.get M.resource i n) (M.get M.resource j m) = rw (u16_back i [], u16_back j [])
item_same (M.get M.resource i n) (M.get M.bin j m) = refl
item_same (M.get M.resource i n) (M.get M.sync j m) = refl
item_same (M.get M.resource i n) (M.condition j r z) = refl
item_same (M.get M.bin i n) (M.get M.resource j m) = refl
item_same (M.get M.bin i n) (M.get M.bin j m) = rw (u16_back i [], u16_back j [])
item_same (M.get M.bin i n) (M.get M.sync j m) = refl
item_same (M.get M.bin i n) (M.condition j r z) = refl
item_same (M.get M.sync i n) (M.get M.resource j m) = refl
item_same (M.get M.sync i n) (M.get M.bin j m) = refl
item_same (M.get M.sync i n) (M.get M.sync j m) = rw (u16_back i [], u16_back j [])
item_same (M.get M.sync i n) (M.condition j r z) = refl
item_same (M.condition i r z) y = refl

claim_good_lem : (c : M.Claim) → list_valid item (claim_bytes c) && not (list_twice item (claim_bytes c)) ≡ claim_good c
claim_good_lem c = list_good item item_bytes item_long item_good item_valid clash item_same c

claim_sized : (c : M.Claim) → list_sized item (claim_bytes c) ≡ true
claim_sized c = list_sized_lem item item_bytes item_long c

share_valid : (h : Share) → part_valid share (share_bytes h) ≡ within 1 No.top_amount h.amount
share_valid h = rw (u32_back h.amount [])

share_same : (x y : Share) → same_part share (share_bytes x) (share_bytes y) ≡ eqb x.of y.of
share_same x y = rw (u16_back x.of [], u16_back y.of [])

shares_good_lem : (hs : List Share)
    → list_valid share (counted share_bytes hs) && not (list_twice share (counted share_bytes hs)) ≡ shares_good hs
shares_good_lem hs =
    list_good share share_bytes share_long (λ h. within 1 No.top_amount h.amount) share_valid (λ x y. eqb x.of y.of)
    share_same hs

-- BRANCHES.
branches_fit_lem : (bs : List Branch) → branches_fit (length bs) (collect branch_bytes bs) ≡ true
unfolding branches_fit
branches_fit_lem [] = refl
branches_fit_lem (b ∷ bs) =
    let n : ℕ = 4 + 8 * length b.claim in
    let r : List ℕ = collect branch_bytes bs in
    let l = length-append (branch_bytes b) r in
    let m = branch_long b in
    let s = branch_size_lem b r in
    let d : 4 ≤ length (branch_bytes b ++ r) = omega arith in
    let e : n ≤ length (branch_bytes b ++ r) = omega arith in
    true-and _ _ (le-leb _ _ d)
    (rw s (true-and _ _ (le-leb _ _ e) (rw (drop_at (branch_bytes b) r n m) (branches_fit_lem bs))))

try_sized : (bs : List Branch) → sized R.branches (counted branch_bytes bs) ≡ true
try_sized bs =
    let d : 2 ≤ length (counted branch_bytes bs) = omega arith in
    true-and _ _ (le-leb _ _ d) (rw (u16_back (length bs) (collect branch_bytes bs)) (branches_fit_lem bs))

module _ (bs : List Branch) where
  abbrev right : Branch → Bool
  right b = list_valid item (claim_bytes b.claim)

  abbrev double : Branch → Bool
  double b = list_twice item (claim_bytes b.claim)

  abbrev number : Bool
  number = within 1 No.most_branches (length bs)

  try_good : valid R.branches (counted branch_bytes bs) && not (twice R.branches (counted branch_bytes bs))
      ≡ number && all (λ b. claim_good b.claim) bs
  try_good =
      rw (u16_back (length bs) (collect branch_bytes bs), branches_back bs)
      (rw (
        all_map branch_bytes (λ x. list_valid item (drop 2 x)) right (λ b. refl) bs,
        any_map branch_bytes (λ x. list_twice item (drop 2 x)) double (λ b. refl) bs,
      )
      (and_assoc number (all right bs) (not (any double bs))
      ∙ ap (λ x. number && (all right bs && x)) (not-any double bs)
      ∙ ap (λ x. number && x)
      (all_both right (λ b. not (double b)) bs ∙ all_same _ _ (λ b. claim_good_lem b.claim) bs)))

-- WHAT IS GOOD IS JUST THAT.
act_good : (a : Action) → ActionFits a → passes (body_judged (row_of (M.kind_of a)) (action_body a)) ≡ action_good a
unfolding row_of action_body
act_good (M.HOLD e) h = with_expression (row_of K.HOLD) [] e h refl refl refl
act_good (M.PRIO e) h = with_expression (row_of K.PRIO) [] e h refl refl refl
act_good (M.TRACE e) h = with_expression (row_of K.TRACE) [] e h refl refl refl
act_good (M.SET i e) h = with_expression (row_of K.SET) (two i) e h refl refl refl
act_good (M.LSET i e) h = with_expression (row_of K.LSET) (two i) e h refl refl refl
act_good (M.DO n b) h = with_field (row_of K.DO) (two n ++ two b) true refl refl refl
act_good (M.PUTR i n) h =
    with_field (row_of K.PUTR) (two i ++ four n) (within 1 No.top_amount n) refl refl (rw (u32_back n []))
act_good (M.PUTB i n) h =
    with_field (row_of K.PUTB) (two i ++ four n) (within 1 No.top_amount n) refl refl (rw (u32_back n []))
act_good (M.PUTS i n) h =
    with_field (row_of K.PUTS) (two i ++ two n) (within 1 No.most_slaves n) refl refl (rw (u16_back n []))
act_good (M.BECOME i) h = with_field (row_of K.BECOME) (two i) true refl refl refl
act_good (M.REQ c) h =
    judged_is (row_of K.REQ) (claim_bytes c) true true (claim_good c) (omega arith) (claim_sized c) refl (claim_good_lem c)
act_good (M.TRY bs) h =
    judged_is (row_of K.TRY) (counted branch_bytes bs) true true (action_good (M.TRY bs)) (omega arith) (try_sized bs) refl
    (try_good bs)
act_good (M.WHILE b c) h =
    judged_is (row_of K.WHILE) (two b ++ claim_bytes c) true true (claim_good c) (omega arith) (claim_sized c) refl (claim_good_lem c)
act_good (M.START c t x) h =
    judged_is (row_of K.START) (two c ++ four t ++ counted share_bytes x) true (within 0 No.top_amount t) (shares_good x)
    (omega arith) (list_sized_lem share share_bytes share_long x) (rw (u32_back t [])) (shares_good_lem x)
act_good M.CLOSE h = with_field (row_of K.CLOSE) [] true refl refl refl

pub good_is : (e : Entry) → Fits e → good e ≡ entry_good e
unfolding row_of body_of
good_is (R.RES n) h = with_field (row_of K.RES) (four n) (within 0 No.top_amount n) refl refl (rw (u32_back n []))
good_is (R.BIN n) h = with_field (row_of K.BIN) (four n) (within 0 No.top_amount n) refl refl (rw (u32_back n []))
good_is R.SYNC h = with_field (row_of K.SYNC) [] true refl refl refl
good_is (R.VAR v) h = with_field (row_of K.VAR) (four (code v)) true refl refl refl
good_is (R.CLASS b) h = with_field (row_of K.CLASS) (two b) true refl refl refl
good_is R.BLOCK h = with_field (row_of K.BLOCK) [] true refl refl refl
good_is (R.ENTITY e) h =
    with_field (row_of K.ENTITY) (two e.class ++ four e.offset) (within 0 No.top_amount e.offset) refl refl
    (rw (u32_back e.offset []))
good_is (R.SAMPLER x) h =
    with_field (row_of K.SAMPLER) (four (code x.lowest) ++ four (code x.highest) ++ four x.seed) (sampler_valid x) refl
    refl
    (rw (i32_back x.lowest [] h.0, i32_back x.highest [] h.1, u32_back x.seed []))
good_is (R.ACTION a) h = act_good a h

-- A GOOD BODY IS SHORT: the longest is that of a TRY with 4 branches of 4 items.
abbrev pub longest_body : ℕ
longest_body = 146

expression_short : (e : Expr) → within 1 No.most_nodes (size e) ≡ true → length (nodes_of e) ≤ 96
expression_short e h =
    let a = and-true (leb 1 (size e)) _ h in
    let b = leb-true (size e) No.most_nodes a.1 in
    let l = size_long e in
    omega arith

claim_short : (c : M.Claim) → claim_good c ≡ true → length (claim_bytes c) ≤ 34
claim_short c h =
    let a = and-true _ _ h in
    let b = leb-true (length c) No.most_items a.0 in
    let l = parts_long 8 item_bytes item_long c in
    omega arith

branches_short : (bs : List Branch) → all (λ b. claim_good b.claim) bs ≡ true
    → length (collect branch_bytes bs) ≤ 36 * length bs
branches_short [] h = omega arith
branches_short (b ∷ bs) h =
    let a = and-true _ _ h in
    let ih = branches_short bs a.1 in
    let c = claim_short b.claim a.0 in
    let l = length-append (branch_bytes b) (collect branch_bytes bs) in
    omega arith

act_short : (a : Action) → action_good a ≡ true → length (action_body a) ≤ longest_body
unfolding action_body
act_short (M.HOLD e) h = let a = expression_short e h in omega arith
act_short (M.PRIO e) h = let a = expression_short e h in omega arith
act_short (M.TRACE e) h = let a = expression_short e h in omega arith
act_short (M.SET i e) h = let a = expression_short e h in omega arith
act_short (M.LSET i e) h = let a = expression_short e h in omega arith
act_short (M.DO n b) h = omega arith
act_short (M.PUTR i n) h = omega arith
act_short (M.PUTB i n) h = omega arith
act_short (M.PUTS i n) h = omega arith
act_short (M.BECOME i) h = omega arith
act_short (M.REQ c) h = let a = claim_short c h in omega arith
act_short (M.TRY bs) h =
    let a = and-true (within 1 No.most_branches (length bs)) _ h in
    let b = leb-true (length bs) No.most_branches (and-true (leb 1 (length bs)) _ a.0).1 in
    let c = branches_short bs a.1 in
    omega arith
act_short (M.WHILE b c) h = let a = claim_short c h in omega arith
act_short (M.START c t x) h =
    let a = and-true (within 0 No.top_amount t) (shares_good x) h in
    let b = leb-true (length x) No.most_items (and-true (leb (length x) No.most_items) _ a.1).0 in
    let l = parts_long 6 share_bytes share_long x in
    omega arith
act_short M.CLOSE h = omega arith

pub good_short : (e : Entry) → Fits e → good e ≡ true → length (body_of e) ≤ longest_body
unfolding body_of
good_short (R.RES n) f h = omega arith
good_short (R.BIN n) f h = omega arith
good_short R.SYNC f h = omega arith
good_short (R.VAR v) f h = omega arith
good_short (R.CLASS b) f h = omega arith
good_short R.BLOCK f h = omega arith
good_short (R.ENTITY e) f h = omega arith
good_short (R.SAMPLER x) f h = omega arith
good_short (R.ACTION a) f h = act_short a (sym (good_is (R.ACTION a) f) ∙ h)

-- A TRY with its first k branches.
all_first : {A : Type 0} (p : A → Bool) (k : ℕ) (xs : List A) → all p xs ≡ true → all p (take k xs) ≡ true
all_first p zero xs h = refl
all_first p (suc k) [] h = refl
all_first p (suc k) (x ∷ xs) h = let a = and-true (p x) _ h in true-and (p x) _ a.0 (all_first p k xs a.1)

pub fits_first : (k : ℕ) (bs : List Branch) → ActionFits (M.TRY bs) → ActionFits (M.TRY (take k bs))
fits_first zero bs h = tt
fits_first (suc k) [] h = tt
fits_first (suc k) (b ∷ bs) h = (h.0, fits_first k bs h.1)

pub try_first : (k : ℕ) (bs : List Branch) → 1 ≤ k → ActionFits (M.TRY bs) → good (R.ACTION (M.TRY bs)) ≡ true
    → good (R.ACTION (M.TRY (take k bs))) ≡ true
try_first k bs l f h =
    let a = and-true (within 1 No.most_branches (length bs)) _ (sym (good_is (R.ACTION (M.TRY bs)) f) ∙ h) in
    let w = and-true (leb 1 (length bs)) _ a.0 in
    let lo = leb-true 1 (length bs) w.0 in
    let hi = leb-true (length bs) No.most_branches w.1 in
    let n = length-take k bs in
    let d : 1 ≤ length (take k bs) = omega arith in
    let e : length (take k bs) ≤ No.most_branches = omega arith in
    good_is (R.ACTION (M.TRY (take k bs))) (fits_first k bs f)
    ∙ true-and _ _ (true-and _ _ (le-leb _ _ d) (le-leb _ _ e)) (all_first (λ b. claim_good b.claim) k bs a.1)
