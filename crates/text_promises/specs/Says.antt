-- What is written for a record says what it was written for, and the records together make the model that their entries make.
-- Assumes nothing.
use Rattle.std.specs.Prelude.{ℕ, suc, ◌+◌, ◌*◌, ◌-◌, ◌/◌, ◌≤◌, ◌<◌, ◌≡◌, Bool, true, false, ◌&&◌, ◌||◌, eqb, ltb, ℤ, pos, negsuc, if◌then◌else◌}
use native.Mathlib.Omega.{arith}
use Rattle.std.proofs.Math.Path.{refl}
use Rattle.std.proofs.Common.{sym, ap, ◌∙◌, lt-ltb, le-ltb, ne_eqb, take_at}
use mathlib.Core.List.{List, [], ◌∷◌, ◌++◌, map, append_assoc, append-nil}
use Rattle.std.proofs.Math.Option.{some}
use Rattle.std.proofs.Math.ListN.{length, length-append}
use Rattle.std.proofs.Math.Seq.{drop_at}
use Rattle.semantics.specs.Words.{passed, any, collect}
use Rattle.semantics.specs.Numbers as No
use Rattle.semantics.specs.Kinds as K
use Rattle.semantics.specs.Model as M
use Rattle.semantics.specs.Model.{Model, Expr, Relation, Item, Branch, Share, Action}
use Rattle.semantics.specs.Bytes.{u16, u32, i32, signed, parts}
use Rattle.semantics.specs.Record as R
use Rattle.semantics.specs.Record.{Entry, node_of, onto, pile, nodes, the_tree, expression_in, relation_of, item_of, claim_in}
use Rattle.semantics.specs.Record.{share_of, shares_in, branch_size, branches_from, branch_of, branches_in, row_of}
use Rattle.semantics.specs.Decode.{refused, accepted, Gathered, adds, no_model, gather, depth, third_pass}
use Rattle.promises.specs.Laws.{no_way, if_two, AllOf}
use Rattle.promises.specs.Counted.{group_of}
use Rattle.text_semantics.specs.Meaning.{Owned}
use Rattle.text_semantics.specs.Written.{two, four, code, node, nodes_of, relation_number, item_bytes, counted, claim_bytes}
use Rattle.text_semantics.specs.Written.{branch_bytes, share_bytes, action_body, kind_of, body_of, bytes_of, file_of}
use Rattle.text_promises.specs.Cuts.{raws_from}
use Rattle.text_promises.specs.Judged.{its_group, declares, Declarations, Blocks}

-- NUMBERS THAT FIT. `two` and `four` leave what is too large in their last byte, so that it is read back all the same; only a
-- signed number has to be in its range.
abbrev pub I32 : ℤ → Type 0
I32 (pos n) = n < 2_147_483_648
I32 (negsuc n) = n < 2_147_483_648

abbrev pub ExprFits : Expr → Type 0
ExprFits (M.literal z) = I32 z
ExprFits (M.global i) = Unit {0}
ExprFits (M.local i) = Unit {0}
ExprFits (M.add a b) = ExprFits a × ExprFits b
ExprFits (M.subtract a b) = ExprFits a × ExprFits b
ExprFits (M.multiply a b) = ExprFits a × ExprFits b
ExprFits (M.lesser a b) = ExprFits a × ExprFits b
ExprFits (M.greater a b) = ExprFits a × ExprFits b
ExprFits M.the_clock = Unit {0}
ExprFits (M.negate a) = ExprFits a
ExprFits (M.draw i) = Unit {0}

abbrev pub ItemFits : Item → Type 0
ItemFits (M.get k i n) = Unit {0}
ItemFits (M.condition i r z) = I32 z

abbrev pub ClaimFits : M.Claim → Type 0
ClaimFits c = AllOf ItemFits c

abbrev pub ActionFits : Action → Type 0
ActionFits (M.HOLD e) = ExprFits e
ActionFits (M.PRIO e) = ExprFits e
ActionFits (M.TRACE e) = ExprFits e
ActionFits (M.SET i e) = ExprFits e
ActionFits (M.LSET i e) = ExprFits e
ActionFits (M.DO n b) = Unit {0}
ActionFits (M.PUTR i n) = Unit {0}
ActionFits (M.PUTB i n) = Unit {0}
ActionFits (M.PUTS i n) = Unit {0}
ActionFits (M.BECOME i) = Unit {0}
ActionFits (M.REQ c) = ClaimFits c
ActionFits (M.TRY bs) = AllOf (λ b. ClaimFits b.claim) bs
ActionFits (M.WHILE b c) = ClaimFits c
ActionFits (M.START c t h) = Unit {0}
ActionFits M.CLOSE = Unit {0}

abbrev pub Fits : Entry → Type 0
Fits (R.RES n) = Unit {0}
Fits (R.BIN n) = Unit {0}
Fits R.SYNC = Unit {0}
Fits (R.VAR v) = I32 v
Fits (R.CLASS b) = Unit {0}
Fits R.BLOCK = Unit {0}
Fits (R.ENTITY e) = Unit {0}
Fits (R.SAMPLER x) = I32 x.lowest × I32 x.highest
Fits (R.ACTION a) = ActionFits a

-- NUMBERS.
pub u16_back : (n : ℕ) (bs : List ℕ) → u16 (two n ++ bs) 0 ≡ n
u16_back n bs = omega arith

pub u32_back : (n : ℕ) (bs : List ℕ) → u32 (four n ++ bs) 0 ≡ n
u32_back n bs = omega arith

signed_back : (z : ℤ) → I32 z → signed (code z) ≡ z
signed_back (pos n) h = rw (lt-ltb n 2_147_483_648 h)
signed_back (negsuc n) h =
    let far : 2_147_483_648 ≤ 4_294_967_295 - n = omega arith in
    let b : 4_294_967_295 - (4_294_967_295 - n) ≡ n = omega arith in
    rw (le-ltb (4_294_967_295 - n) 2_147_483_648 far, b)

pub i32_back : (z : ℤ) (bs : List ℕ) → I32 z → i32 (four (code z) ++ bs) 0 ≡ z
i32_back z bs h = ap signed (u32_back (code z) bs) ∙ signed_back z h

-- EXPRESSIONS. How many nodes one has; read from the last to the first, over what stands behind them.
abbrev pub size : Expr → ℕ
size (M.literal z) = 1
size (M.global i) = 1
size (M.local i) = 1
size (M.add a b) = suc (size a + size b)
size (M.subtract a b) = suc (size a + size b)
size (M.multiply a b) = suc (size a + size b)
size (M.lesser a b) = suc (size a + size b)
size (M.greater a b) = suc (size a + size b)
size M.the_clock = 1
size (M.negate a) = suc (size a)
size (M.draw i) = 1

abbrev Piles : Expr → Type 0
Piles e =
    (n : ℕ) (bs : List ℕ) (es : List Expr) → pile (parts 6 n bs) ≡ some es
    → pile (parts 6 (size e + n) (nodes_of e ++ bs)) ≡ some (e ∷ es)

one_more : (op v n : ℕ) (bs : List ℕ) (es : List Expr) → pile (parts 6 n bs) ≡ some es
    → pile (parts 6 (suc n) (node op v ++ bs)) ≡ onto (node_of (u16 (node op v) 0) (u32 (node op v) 2)) es
unfolding pile parts
one_more op v n bs es e = rw e

leaf_more : (op v n : ℕ) (bs : List ℕ) (es : List Expr) (x : Expr) → pile (parts 6 n bs) ≡ some es
    → onto (node_of (u16 (node op v) 0) (u32 (node op v) 2)) es ≡ some (x ∷ es)
    → pile (parts 6 (1 + n) (node op v ++ bs)) ≡ some (x ∷ es)
leaf_more op v n bs es x e f = let s : 1 + n ≡ suc n = omega arith in rw s (one_more op v n bs es e ∙ f)

two_more : (op : ℕ) (a b : Expr) (f : Expr → Expr → Expr) → Piles a → Piles b
    → onto (node_of (u16 (node op 0) 0) (u32 (node op 0) 2)) ≡ onto (R.binary f)
    → (n : ℕ) (bs : List ℕ) (es : List Expr) → pile (parts 6 n bs) ≡ some es
    → pile (parts 6 (suc (size a + size b) + n) ((node op 0 ++ nodes_of a ++ nodes_of b) ++ bs)) ≡ some (f a b ∷ es)
two_more op a b f p q d n bs es e =
    let s : suc (size a + size b) + n ≡ suc (size a + (size b + n)) = omega arith in
    let r = p (size b + n) (nodes_of b ++ bs) (b ∷ es) (q n bs es e) in
    rw (s, append_assoc (nodes_of a) (nodes_of b) bs)
    (one_more op 0 (size a + (size b + n)) (nodes_of a ++ (nodes_of b ++ bs)) (a ∷ b ∷ es) r ∙ ap (λ g. g (a ∷ b ∷ es)) d)

piles : (e : Expr) → ExprFits e → Piles e
unfolding nodes_of
piles (M.literal z) h n bs es e = leaf_more 0 (code z) n bs es (M.literal z) e (rw (i32_back z [] h))
piles (M.global i) h n bs es e = leaf_more 1 i n bs es (M.global i) e (rw (u32_back i []))
piles (M.local i) h n bs es e = leaf_more 2 i n bs es (M.local i) e (rw (u32_back i []))
piles (M.add a b) h n bs es e = two_more 3 a b M.add (piles a h.0) (piles b h.1) refl n bs es e
piles (M.subtract a b) h n bs es e = two_more 4 a b M.subtract (piles a h.0) (piles b h.1) refl n bs es e
piles (M.multiply a b) h n bs es e = two_more 5 a b M.multiply (piles a h.0) (piles b h.1) refl n bs es e
piles (M.lesser a b) h n bs es e = two_more 6 a b M.lesser (piles a h.0) (piles b h.1) refl n bs es e
piles (M.greater a b) h n bs es e = two_more 7 a b M.greater (piles a h.0) (piles b h.1) refl n bs es e
piles M.the_clock h n bs es e = leaf_more 8 0 n bs es M.the_clock e refl
piles (M.negate a) h n bs es e =
    let s : suc (size a) + n ≡ suc (size a + n) = omega arith in
    rw s (one_more 9 0 (size a + n) (nodes_of a ++ bs) (a ∷ es) (piles a h n bs es e))
piles (M.draw i) h n bs es e = leaf_more 10 i n bs es (M.draw i) e (rw (u32_back i []))

two_long : (a b : Expr) → length (nodes_of a) ≡ 6 * size a → length (nodes_of b) ≡ 6 * size b
    → length (node 0 0 ++ nodes_of a ++ nodes_of b) ≡ 6 * suc (size a + size b)
two_long a b l m = let n = length-append (nodes_of a) (nodes_of b) in omega arith

pub size_long : (e : Expr) → length (nodes_of e) ≡ 6 * size e
unfolding nodes_of
size_long (M.literal z) = refl
size_long (M.global i) = refl
size_long (M.local i) = refl
size_long (M.add a b) = two_long a b (size_long a) (size_long b)
size_long (M.subtract a b) = two_long a b (size_long a) (size_long b)
size_long (M.multiply a b) = two_long a b (size_long a) (size_long b)
size_long (M.lesser a b) = two_long a b (size_long a) (size_long b)
size_long (M.greater a b) = two_long a b (size_long a) (size_long b)
size_long M.the_clock = refl
size_long (M.negate a) = let l = size_long a in omega arith
size_long (M.draw i) = refl

pub nodes_are : (e : Expr) → nodes (nodes_of e) ≡ parts 6 (size e) (nodes_of e)
nodes_are e =
    let l = size_long e in let d : length (nodes_of e) / 6 ≡ size e = omega arith in ap (λ n. parts 6 n (nodes_of e)) d

pub one_pile : (e : Expr) → ExprFits e → pile (nodes (nodes_of e)) ≡ some (e ∷ [])
unfolding pile parts
one_pile e h =
    let s : size e + 0 ≡ size e = omega arith in
    let p = rw (s, append-nil) at (piles e h 0 [] [] refl) in
    ap pile (nodes_are e) ∙ p

pub expression_back : (e : Expr) → ExprFits e → expression_in (nodes_of e) ≡ e
unfolding expression_in
expression_back e h = ap the_tree (one_pile e h)

-- PARTS of one size, laid end to end, are cut into the same parts.
module _ {A : Type 0} (k : ℕ) (f : A → List ℕ) (sized : (x : A) → length (f x) ≡ k) where
  pub parts_back : (xs : List A) → parts k (length xs) (collect f xs) ≡ map f xs
  unfolding parts
  parts_back [] = refl
  parts_back (x ∷ xs) =
      rw (take_at (f x) (collect f xs) k (sized x), drop_at (f x) (collect f xs) k (sized x), parts_back xs)

  pub parts_long : (xs : List A) → length (collect f xs) ≡ k * length xs
  parts_long [] = omega arith
  parts_long (x ∷ xs) =
      let ih = parts_long xs in let l = length-append (f x) (collect f xs) in let s = sized x in omega arith

map_back : {A B : Type 0} (P : A → Type 0) (f : A → B) (g : B → A) → ((x : A) → P x → g (f x) ≡ x) → (xs : List A)
    → AllOf P xs → map g (map f xs) ≡ xs
map_back P f g h [] p = refl
map_back P f g h (x ∷ xs) p = rw (h x p.0, map_back P f g h xs p.1)

-- CLAIMS.
pub item_long : (i : Item) → length (item_bytes i) ≡ 8
item_long (M.get k i n) = refl
item_long (M.condition i r z) = refl

relation_back : (r : Relation) → relation_of (relation_number r) ≡ r
relation_back M.below = refl
relation_back M.at_most = refl
relation_back M.equals = refl
relation_back M.differs = refl
relation_back M.at_least = refl
relation_back M.above = refl

item_back : (i : Item) → ItemFits i → item_of (item_bytes i) ≡ i
item_back (M.get M.resource i n) h = rw (u16_back i [], u32_back n [])
item_back (M.get M.bin i n) h = rw (u16_back i [], u32_back n [])
item_back (M.get M.sync i n) h = rw (u16_back i [], u32_back n [])
item_back (M.condition i r z) h = rw (u16_back i [], relation_back r, i32_back z [] h)

pub claim_back : (c : M.Claim) → ClaimFits c → claim_in (claim_bytes c) ≡ c
unfolding claim_in
claim_back c h =
    rw (u16_back (length c) (collect item_bytes c), parts_back 8 item_bytes item_long c)
    (map_back ItemFits item_bytes item_of item_back c h)

-- SHARES.
pub share_long : (h : Share) → length (share_bytes h) ≡ 6
share_long h = refl

share_back : (h : Share) → Unit {0} → share_of (share_bytes h) ≡ h
share_back h u = rw (u16_back h.of [], u32_back h.amount [])

all_units : {A : Type 0} (xs : List A) → AllOf (λ x. Unit {0}) xs
all_units [] = tt
all_units (x ∷ xs) = (tt, all_units xs)

pub shares_back : (hs : List Share) → shares_in (counted share_bytes hs) ≡ hs
unfolding shares_in
shares_back hs =
    rw (u16_back (length hs) (collect share_bytes hs), parts_back 6 share_bytes share_long hs)
    (map_back (λ h. Unit {0}) share_bytes share_of share_back hs (all_units hs))

-- BRANCHES.
pub branch_long : (b : Branch) → length (branch_bytes b) ≡ 4 + 8 * length b.claim
branch_long b = let l = parts_long 8 item_bytes item_long b.claim in omega arith

pub branch_size_lem : (b : Branch) (bs : List ℕ) → branch_size (branch_bytes b ++ bs) ≡ 4 + 8 * length b.claim
branch_size_lem b bs = ap (λ n. 4 + 8 * n) (u16_back (length b.claim) [])

pub branches_back : (bs : List Branch) → branches_from (length bs) (collect branch_bytes bs) ≡ map branch_bytes bs
unfolding branches_from
branches_back [] = refl
branches_back (b ∷ bs) =
    let n : ℕ = 4 + 8 * length b.claim in
    let r : List ℕ = collect branch_bytes bs in
    rw (
      branch_size_lem b r,
      take_at (branch_bytes b) r n (branch_long b),
      drop_at (branch_bytes b) r n (branch_long b),
      branches_back bs,
    )

branch_back : (b : Branch) → ClaimFits b.claim → branch_of (branch_bytes b) ≡ b
branch_back b h = rw (u16_back b.block [], claim_back b.claim h)

pub try_back : (bs : List Branch) → AllOf (λ b. ClaimFits b.claim) bs → branches_in (counted branch_bytes bs) ≡ bs
unfolding branches_in
try_back bs h =
    rw (u16_back (length bs) (collect branch_bytes bs), branches_back bs)
    (map_back (λ b. ClaimFits b.claim) branch_bytes branch_of branch_back bs h)

-- EVERY RECORD says what it was written for.
act_back : (a : Action) → ActionFits a → (row_of (M.kind_of a)).says (action_body a) ≡ R.ACTION a
unfolding row_of action_body
act_back (M.HOLD e) h = rw (expression_back e h)
act_back (M.PRIO e) h = rw (expression_back e h)
act_back (M.TRACE e) h = rw (expression_back e h)
act_back (M.SET i e) h = rw (u16_back i [], expression_back e h)
act_back (M.LSET i e) h = rw (u16_back i [], expression_back e h)
act_back (M.DO n b) h = rw (u16_back n [], u16_back b [])
act_back (M.PUTR i n) h = rw (u16_back i [], u32_back n [])
act_back (M.PUTB i n) h = rw (u16_back i [], u32_back n [])
act_back (M.PUTS i n) h = rw (u16_back i [], u16_back n [])
act_back (M.BECOME i) h = rw (u16_back i [])
act_back (M.REQ c) h = rw (claim_back c h)
act_back (M.TRY bs) h = rw (try_back bs h)
act_back (M.WHILE b c) h = rw (u16_back b [], claim_back c h)
act_back (M.START c t x) h = rw (u16_back c [], u32_back t [], shares_back x)
act_back M.CLOSE h = refl

pub says_back : (e : Entry) → Fits e → (row_of (kind_of e)).says (body_of e) ≡ e
unfolding row_of body_of
says_back (R.RES n) h = rw (u32_back n [])
says_back (R.BIN n) h = rw (u32_back n [])
says_back R.SYNC h = refl
says_back (R.VAR v) h = rw (i32_back v [] h)
says_back (R.CLASS b) h = rw (u16_back b [])
says_back R.BLOCK h = refl
says_back (R.ENTITY e) h = rw (u16_back e.class [], u32_back e.offset [])
says_back (R.SAMPLER x) h = rw (i32_back x.lowest [] h.0, i32_back x.highest [] h.1, u32_back x.seed [])
says_back (R.ACTION a) h = act_back a h

-- THE MODEL that entries make.
abbrev pub gathered : List Owned → Gathered
gathered [] = record { model = no_model; loose = [] }
gathered (o ∷ os) = adds (gathered os) o.entry

pub gather_is : (at : ℕ) (os : List Owned) → AllOf (λ o. Fits o.entry) os → gather (raws_from at os) ≡ gathered os
unfolding gather
gather_is at [] h = refl
gather_is at (o ∷ os) h =
    ap (λ g. adds g ((row_of (kind_of o.entry)).says (body_of o.entry)))
    (gather_is (at + length (bytes_of o.entry)) os h.1)
    ∙ ap (adds (gathered os)) (says_back o.entry h.0)

-- Its blocks are the actions behind each BLOCK, up to the next; its classes are their body blocks.
abbrev pub opens : Entry → Bool
opens (R.RES n) = false
opens (R.BIN n) = false
opens R.SYNC = false
opens (R.VAR v) = false
opens (R.CLASS b) = false
opens R.BLOCK = true
opens (R.ENTITY e) = false
opens (R.SAMPLER x) = false
opens (R.ACTION a) = false

abbrev pub action_in : Entry → List Action
action_in (R.RES n) = []
action_in (R.BIN n) = []
action_in R.SYNC = []
action_in (R.VAR v) = []
action_in (R.CLASS b) = []
action_in R.BLOCK = []
action_in (R.ENTITY e) = []
action_in (R.SAMPLER x) = []
action_in (R.ACTION a) = a ∷ []

abbrev pub class_in : Entry → List ℕ
class_in (R.RES n) = []
class_in (R.BIN n) = []
class_in R.SYNC = []
class_in (R.VAR v) = []
class_in (R.CLASS b) = b ∷ []
class_in R.BLOCK = []
class_in (R.ENTITY e) = []
class_in (R.SAMPLER x) = []
class_in (R.ACTION a) = []

abbrev pub classes_in : List Owned → List ℕ
classes_in os = collect (λ o. class_in o.entry) os

-- the actions up to the next BLOCK
abbrev pub to_block : List Owned → List Action
to_block [] = []
to_block (o ∷ os) = if opens o.entry then [] else action_in o.entry ++ to_block os

abbrev pub blocks_in : List Owned → List (List Action)
blocks_in [] = []
blocks_in (o ∷ os) = if opens o.entry then to_block os ∷ blocks_in os else blocks_in os

-- The model's blocks, the actions whose BLOCK is still to come, and the model's classes.
abbrev Made : Gathered → List Owned → Type 0
Made g os = (g.model.blocks ≡ blocks_in os) × (g.loose ≡ to_block os) × (g.model.classes ≡ classes_in os)

one_made : (g : Gathered) (e : Entry) (k : ℕ) (os : List Owned) → Made g os
    → Made (adds g e) (record { entry = e; owner = k } ∷ os)
one_made g (R.RES n) k os h = h
one_made g (R.BIN n) k os h = h
one_made g R.SYNC k os h = h
one_made g (R.VAR v) k os h = h
one_made g (R.CLASS b) k os h = (h.0, h.1, ap (λ bs. b ∷ bs) h.2)
one_made g R.BLOCK k os h = (rw (h.0, h.1), refl, h.2)
one_made g (R.ENTITY e) k os h = h
one_made g (R.SAMPLER x) k os h = h
one_made g (R.ACTION a) k os h = (h.0, ap (λ bs. a ∷ bs) h.1, h.2)

all_made : (os : List Owned) → Made (gathered os) os
all_made [] = (refl, refl, refl)
all_made (o ∷ os) = one_made (gathered os) o.entry o.owner os (all_made os)

module _ (at : ℕ) (os : List Owned) (fit : AllOf (λ o. Fits o.entry) os) where
  pub blocks_made : (gather (raws_from at os)).model.blocks ≡ blocks_in os
  blocks_made = rw (gather_is at os fit) (all_made os).0

  pub classes_made : (gather (raws_from at os)).model.classes ≡ classes_in os
  classes_made = rw (gather_is at os fit) (all_made os).2

-- DECLARATIONS open no block, and blocks declare no class.
declares_none : (e : Entry) → declares e ≡ true → opens e ≡ false
declares_none (R.RES n) h = refl
declares_none (R.BIN n) h = refl
declares_none R.SYNC h = refl
declares_none (R.VAR v) h = refl
declares_none (R.CLASS b) h = refl
declares_none R.BLOCK h = no_way h
declares_none (R.ENTITY e) h = refl
declares_none (R.SAMPLER x) h = refl
declares_none (R.ACTION a) h = no_way h

no_class : (e : Entry) → declares e ≡ false → class_in e ≡ []
no_class (R.RES n) h = refl
no_class (R.BIN n) h = refl
no_class R.SYNC h = refl
no_class (R.VAR v) h = refl
no_class (R.CLASS b) h = no_way (sym h)
no_class R.BLOCK h = refl
no_class (R.ENTITY e) h = refl
no_class (R.SAMPLER x) h = refl
no_class (R.ACTION a) h = refl

pub is_action : (e : Entry) → group_of e ≡ K.ACTION → (opens e ≡ false) × (declares e ≡ false)
is_action (R.RES n) h = absurd (omega arith)
is_action (R.BIN n) h = absurd (omega arith)
is_action R.SYNC h = absurd (omega arith)
is_action (R.VAR v) h = absurd (omega arith)
is_action (R.CLASS b) h = absurd (omega arith)
is_action R.BLOCK h = absurd (omega arith)
is_action (R.ENTITY e) h = absurd (omega arith)
is_action (R.SAMPLER x) h = absurd (omega arith)
is_action (R.ACTION a) h = (refl, refl)

pub is_block : (e : Entry) → group_of e ≡ K.BLOCK → (opens e ≡ true) × (declares e ≡ false)
is_block (R.RES n) h = absurd (omega arith)
is_block (R.BIN n) h = absurd (omega arith)
is_block R.SYNC h = absurd (omega arith)
is_block (R.VAR v) h = absurd (omega arith)
is_block (R.CLASS b) h = absurd (omega arith)
is_block R.BLOCK h = (refl, refl)
is_block (R.ENTITY e) h = absurd (omega arith)
is_block (R.SAMPLER x) h = absurd (omega arith)
is_block (R.ACTION a) h = absurd (omega arith)

pub blocks_behind : (ds os : List Owned) → Declarations ds → blocks_in (ds ++ os) ≡ blocks_in os
blocks_behind [] os h = refl
blocks_behind (d ∷ ds) os h = rw (declares_none d.entry h.0) (blocks_behind ds os h.1)

pub classes_append : (ps qs : List Owned) → classes_in (ps ++ qs) ≡ classes_in ps ++ classes_in qs
classes_append [] qs = refl
classes_append (p ∷ ps) qs =
    ap (λ cs. class_in p.entry ++ cs) (classes_append ps qs)
    ∙ sym (append_assoc (class_in p.entry) (classes_in ps) (classes_in qs))

none_declared : (os : List Owned) → AllOf (λ o. declares o.entry ≡ false) os → classes_in os ≡ []
none_declared [] h = refl
none_declared (o ∷ os) h = rw (no_class o.entry h.0) (none_declared os h.1)

pub blocks_no_class : (os : List Owned) → Blocks os → classes_in os ≡ []
blocks_no_class [] h = refl
blocks_no_class (o ∷ os) h = none_declared (o ∷ os) ((is_block o.entry h.0).1, h.1)

-- BLOCKS behind one another.
abbrev pub Actions : List Owned → Type 0
Actions os = AllOf (λ o. group_of o.entry ≡ K.ACTION) os

abbrev pub actions_in : List Owned → List Action
actions_in os = collect (λ o. action_in o.entry) os

none_loose : (os : List Owned) → Blocks os → to_block os ≡ []
none_loose [] h = refl
none_loose (o ∷ os) h = rw (is_block o.entry h.0).0

loose_append : (ps qs : List Owned) → Blocks qs → to_block (ps ++ qs) ≡ to_block ps
loose_append [] qs h = none_loose qs h
loose_append (p ∷ ps) qs h = rw (loose_append ps qs h)

pub blocks_append : (ps qs : List Owned) → Blocks qs → blocks_in (ps ++ qs) ≡ blocks_in ps ++ blocks_in qs
blocks_append [] qs h = refl
blocks_append (p ∷ ps) qs h =
    rw (blocks_append ps qs h, loose_append ps qs h)
    (if_two (λ xs ys. xs ≡ ys ++ blocks_in qs) (opens p.entry) refl refl)

actions_only : (os : List Owned) → Actions os → (blocks_in os ≡ []) × (to_block os ≡ actions_in os)
actions_only [] h = (refl, refl)
actions_only (o ∷ os) h =
    let a = is_action o.entry h.0 in
    let ih = actions_only os h.1 in
    rw a.0 (ih.0, ap (λ xs. action_in o.entry ++ xs) ih.1)

-- A BLOCK, its actions, and then other blocks.
pub block_first : (b : Owned) (ps qs : List Owned) → group_of b.entry ≡ K.BLOCK → Actions ps → Blocks qs
    → blocks_in (b ∷ ps ++ qs) ≡ actions_in ps ∷ blocks_in qs
block_first b ps qs e h k =
    let a = actions_only ps h in
    rw ((is_block b.entry e).0, blocks_append ps qs k, loose_append ps qs k, a.0, a.1)

-- THE THIRD PASS asks how deep the bodies of the classes nest, in file order.
abbrev pub too_deep : Model → Entry → Bool
too_deep m e = any (λ b. ltb No.deepest (depth m b)) (class_in e)

acts_no_class : (a : Action) → eqb (M.kind_of a) K.CLASS ≡ false
unfolding row_of
acts_no_class a =
    ne_eqb (M.kind_of a) K.CLASS λ e.
    let g : (row_of K.CLASS).group ≡ K.ACTION = ap (λ k. (row_of k).group) (sym e) ∙ (its_group (R.ACTION a)).0 in omega arith

deep_is : (m : Model) (e : Entry) → eqb (kind_of e) K.CLASS && ltb No.deepest (depth m (u16 (body_of e) 0)) ≡ too_deep m e
unfolding body_of
deep_is m (R.RES n) = refl
deep_is m (R.BIN n) = refl
deep_is m R.SYNC = refl
deep_is m (R.VAR v) = refl
deep_is m (R.CLASS b) = rw (u16_back b []) (go (ltb No.deepest (depth m b)))
  where
    go : (x : Bool) → x ≡ x || false
    go true = refl
    go false = refl
deep_is m R.BLOCK = refl
deep_is m (R.ENTITY e) = refl
deep_is m (R.SAMPLER x) = refl
deep_is m (R.ACTION a) = rw (acts_no_class a)

module _ (m : Model) where
  pub third_passes : (at : ℕ) (os : List Owned) → AllOf (λ o. too_deep m o.entry ≡ false) os
      → third_pass m (raws_from at os) ≡ accepted passed
  unfolding third_pass
  third_passes at [] h = refl
  third_passes at (o ∷ os) h =
      rw (deep_is m o.entry, h.0) (third_passes (at + length (bytes_of o.entry)) os h.1)

  pub third_stops : (at : ℕ) (ps : List Owned) (o : Owned) (qs : List Owned) → AllOf (λ o. too_deep m o.entry ≡ false) ps
      → too_deep m o.entry ≡ true → third_pass m (raws_from at (ps ++ o ∷ qs)) ≡ refused No.DEEP (at + length (file_of ps))
  unfolding third_pass
  third_stops at [] o qs h d =
      let z : at + 0 ≡ at = omega arith in rw (deep_is m o.entry, d, z)
  third_stops at (p ∷ ps) o qs h d =
      let l = length-append (bytes_of p.entry) (file_of ps) in
      let z : at + length (file_of (p ∷ ps)) ≡ at + length (bytes_of p.entry) + length (file_of ps) = omega arith in
      rw (deep_is m p.entry, h.0, z) (third_stops (at + length (bytes_of p.entry)) ps o qs h.1 d)
