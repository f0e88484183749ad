-- A record as its bytes (document 01, "The model file"): what each says, written down; and the file that a text writes.
-- Assumes nothing.
use Rattle.std.specs.Prelude.{ℕ, ◌+◌, ◌-◌, ◌/◌, ◌%◌, List, [], ◌∷◌, ◌++◌, ltb, length, ℤ, pos, negsuc, if◌then◌else◌}
use Rattle.semantics.specs.Words.{collect}
use Rattle.semantics.specs.Kinds as K
use Rattle.semantics.specs.Model as M
use Rattle.semantics.specs.Model.{Expr, Relation, Item, Branch, Share, Action}
use Rattle.semantics.specs.Record as R
use Rattle.semantics.specs.Record.{Entry}
use Rattle.text_semantics.specs.Meaning.{Owned}

-- NUMBERS, little-endian: a byte has 256 values.
abbrev pub BYTE : ℕ
BYTE = 256

abbrev pub TOP : ℕ
TOP = 4_294_967_295

abbrev pub two : ℕ → List ℕ
two n = n % BYTE ∷ n / BYTE ∷ []

abbrev pub four : ℕ → List ℕ
four n = n % BYTE ∷ n / BYTE % BYTE ∷ n / BYTE / BYTE % BYTE ∷ n / BYTE / BYTE / BYTE ∷ []

abbrev pub code : ℤ → ℕ
code (pos n) = n
code (negsuc n) = TOP - n

-- EXPRESSIONS: the nodes in prefix order, u16 op and i32 operand.
abbrev pub DRAW : ℕ
DRAW = 10

abbrev pub node : ℕ → ℕ → List ℕ
node op v = two op ++ four v

unfoldable pub nodes_of : Expr → List ℕ
nodes_of (M.literal z) = node 0 (code z)
nodes_of (M.global i) = node 1 i
nodes_of (M.local i) = node 2 i
nodes_of (M.add a b) = node 3 0 ++ nodes_of a ++ nodes_of b
nodes_of (M.subtract a b) = node 4 0 ++ nodes_of a ++ nodes_of b
nodes_of (M.multiply a b) = node 5 0 ++ nodes_of a ++ nodes_of b
nodes_of (M.lesser a b) = node 6 0 ++ nodes_of a ++ nodes_of b
nodes_of (M.greater a b) = node 7 0 ++ nodes_of a ++ nodes_of b
nodes_of M.the_clock = node 8 0
nodes_of (M.negate a) = node 9 0 ++ nodes_of a
nodes_of (M.draw i) = node DRAW i

-- CLAIMS, branches and shares: a count, and then each.
abbrev pub relation_number : Relation → ℕ
relation_number M.below = 1
relation_number M.at_most = 2
relation_number M.equals = 3
relation_number M.differs = 4
relation_number M.at_least = 5
relation_number M.above = 6

abbrev pub item_kind : M.Kind → ℕ
item_kind M.resource = 0
item_kind M.bin = 1
item_kind M.sync = 2

abbrev pub item_bytes : Item → List ℕ
item_bytes (M.get k i n) = item_kind k ∷ 0 ∷ two i ++ four n
item_bytes (M.condition i r z) = 3 ∷ relation_number r ∷ two i ++ four (code z)

abbrev pub counted : {A : Type 0} → (A → List ℕ) → List A → List ℕ
counted f xs = two (length xs) ++ collect f xs

abbrev pub claim_bytes : M.Claim → List ℕ
claim_bytes c = counted item_bytes c

abbrev pub branch_bytes : Branch → List ℕ
branch_bytes b = two b.block ++ claim_bytes b.claim

abbrev pub share_bytes : Share → List ℕ
share_bytes h = two h.of ++ four h.amount

-- RECORDS: the kind and the body of each.
unfoldable pub action_body : Action → List ℕ
unfolding nodes_of
action_body (M.HOLD e) = nodes_of e
action_body (M.PRIO e) = nodes_of e
action_body (M.SET i e) = two i ++ nodes_of e
action_body (M.LSET i e) = two i ++ nodes_of e
action_body (M.DO n b) = two n ++ two b
action_body (M.PUTR i n) = two i ++ four n
action_body (M.PUTB i n) = two i ++ four n
action_body (M.PUTS i n) = two i ++ two n
action_body (M.BECOME i) = two i
action_body (M.REQ c) = claim_bytes c
action_body (M.TRY bs) = counted branch_bytes bs
action_body (M.WHILE b c) = two b ++ claim_bytes c
action_body (M.START c t h) = two c ++ four t ++ counted share_bytes h
action_body (M.TRACE e) = nodes_of e
action_body M.CLOSE = []

abbrev pub kind_of : Entry → ℕ
kind_of (R.RES n) = K.RES
kind_of (R.BIN n) = K.BIN
kind_of R.SYNC = K.SYNC
kind_of (R.VAR v) = K.VAR
kind_of (R.CLASS b) = K.CLASS
kind_of R.BLOCK = K.BLOCK
kind_of (R.ENTITY e) = K.ENTITY
kind_of (R.SAMPLER x) = K.SAMPLER
kind_of (R.ACTION a) = M.kind_of a

unfoldable pub body_of : Entry → List ℕ
unfolding action_body
body_of (R.RES n) = four n
body_of (R.BIN n) = four n
body_of R.SYNC = []
body_of (R.VAR v) = four (code v)
body_of (R.CLASS b) = two b
body_of R.BLOCK = []
body_of (R.ENTITY e) = two e.class ++ four e.offset
body_of (R.SAMPLER x) = four (code x.lowest) ++ four (code x.highest) ++ four x.seed
body_of (R.ACTION a) = action_body a

-- A length counts all that follows it.
unfoldable pub bytes_of : Entry → List ℕ
unfolding body_of
bytes_of e = two (2 + length (body_of e)) ++ two (kind_of e) ++ body_of e

abbrev pub file_of : List Owned → List ℕ
file_of os = collect (λ o. bytes_of o.entry) os

-- The owner of the record that begins k bytes into the file.
unfoldable pub owner_at : ℕ → List Owned → ℕ
unfolding bytes_of
owner_at k [] = 0
owner_at k (o ∷ os) = if ltb k (length (bytes_of o.entry)) then o.owner else owner_at (k - length (bytes_of o.entry)) os
