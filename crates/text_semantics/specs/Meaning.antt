-- What a text says (docs/TEXT.md, section 6): the records that its declarations and actions write, in the order of the file, each
-- as what it says, with the token that its declaration or action begins with.
-- Assumes nothing.
use Rattle.std.specs.Prelude.{ℕ, zero, suc, ◌+◌, Bool, false, eqb, length, ℤ, pos, negsuc, if◌then◌else◌}
use mathlib.Core.List.{List, [], ◌∷◌, ◌++◌, map}
use Rattle.semantics.specs.Words.{any}
use Rattle.semantics.specs.Kinds as K
use Rattle.semantics.specs.Model as M
use Rattle.semantics.specs.Model.{Expr, Action, Branch, Share}
use Rattle.semantics.specs.Record as R
use Rattle.semantics.specs.Record.{Entry}
use Rattle.text_semantics.specs.Numbers as No
use Rattle.text_semantics.specs.Token as T
use Rattle.text_semantics.specs.Token.{mark}
use Rattle.text_semantics.specs.Lexing.{same_bytes}
use Rattle.text_semantics.specs.Grammar as G
use Rattle.text_semantics.specs.Grammar.{Name, Part, Ex, Kind, Act, Locals, Declaration, Text, digits, spell_claim}
use Rattle.text_semantics.specs.Grammar.{to_brace, spell_act, spell_locals, declare}
use Rattle.text_semantics.specs.Names.{Known, named, LOCAL, embodies, in_locals, in_declaration, after}

-- WHAT A NAME STANDS FOR. One that isn't known is refused (Names), so that its number is never looked at.
abbrev pub kind_of : List Known → Name → ℕ
kind_of [] x = LOCAL
kind_of (k ∷ ks) x = if named x k then k.what else kind_of ks x

abbrev pub number_of : List Known → Name → ℕ
number_of [] x = 0
number_of (k ∷ ks) x = if named x k then k.number else number_of ks x

abbrev pub value_of : List Known → Name → Expr
value_of ks x =
    if eqb (kind_of ks x) K.VAR
    then M.global (number_of ks x)
    else if eqb (kind_of ks x) K.SAMPLER
    then M.draw (number_of ks x)
    else M.local (number_of ks x)

abbrev pub store_in : List Known → Name → Expr → Action
store_in ks x e = if eqb (kind_of ks x) K.VAR then M.SET (number_of ks x) e else M.LSET (number_of ks x) e

-- NUMBERS. A minus before a bare number is a part of it.
abbrev pub minus : ℕ → ℤ
minus zero = pos 0
minus (suc n) = negsuc n

abbrev pub signed_of : G.Signed → ℤ
signed_of (G.upward n) = pos n.value
signed_of (G.downward n) = minus n.value

-- EXPRESSIONS. + and - bind to the left, and so does *: what stands on the left already is handed on.
abbrev pub Means : Part → Type 0
Means (G.expression d) = Expr
Means (G.term d) = Expr
Means (G.terms d) = Expr → Expr
Means (G.factor d) = Expr
Means (G.factors d) = Expr → Expr
Means (G.minus d) = Expr
Means (G.atom d) = Expr

module _ (ks : List Known) where
  unfoldable pub means : {p : Part} → Ex p → Means p
  means (G.sum t ts) = means ts (means t)
  means G.no_terms = λ a. a
  means (G.plus t ts) = λ a. means ts (M.add a (means t))
  means (G.less t ts) = λ a. means ts (M.subtract a (means t))
  means (G.product f fs) = means fs (means f)
  means G.no_factors = λ a. a
  means (G.times f fs) = λ a. means fs (M.multiply a (means f))
  means (G.literal n) = M.literal (pos n.value)
  means (G.plain a) = means a
  means (G.negative m) = means m
  means (G.magnitude n) = M.literal (minus n.value)
  means (G.negated a) = M.negate (means a)
  means (G.again m) = M.negate (means m)
  means (G.value x) = value_of ks x
  means G.clock = M.the_clock
  means (G.bracket e) = means e
  means (G.lesser a b) = M.lesser (means a) (means b)
  means (G.greater a b) = M.greater (means a) (means b)

  -- CLAIMS, and what a start hands over.
  abbrev pub item_of : G.Item → M.Item
  item_of (G.get_r x n) = M.get M.resource (number_of ks x) n.value
  item_of (G.get_b x n) = M.get M.bin (number_of ks x) n.value
  item_of (G.get_s x n) = M.get M.sync (number_of ks x) n.value
  item_of (G.condition x k n) = M.condition (number_of ks x) k (signed_of n)

  abbrev pub claim_of : G.Claim → M.Claim
  claim_of G.nothing = []
  claim_of (G.claim i is) = item_of i ∷ map item_of is

  abbrev pub share_of : G.Give → Share
  share_of (G.give x n) = record { of = number_of ks x; amount = n.value }

  abbrev pub shares_of : G.Gives → List Share
  shares_of G.no_gives = []
  shares_of (G.gives x n gs) = share_of (G.give x n) ∷ map share_of gs

-- A record as what it says, and how many tokens stand before the declaration or action that it belongs to.
pub record Owned : Type 0 where
  pub entry : Entry
  pub owner : ℕ

abbrev pub owned : Entry → ℕ → Owned
owned e o = record { entry = e; owner = o }

-- BLOCKS. Each brace opens one.
unfoldable pub opened : {k : Kind} → Act k → ℕ
opened (G.hold e) = 0
opened (G.priority e) = 0
opened (G.trace e) = 0
opened (G.set x e) = 0
opened (G.put_r x n) = 0
opened (G.put_b x n) = 0
opened (G.put_s x n) = 0
opened (G.become x) = 0
opened (G.req c) = 0
opened (G.start x n g) = 0
opened G.close = 0
opened G.no_branches = 0
opened G.no_actions = 0
opened (G.repeat n b) = suc (opened b)
opened (G.try c b bs) = suc (opened b + opened bs)
opened (G.while c b) = suc (opened b)
opened (G.etry c b bs) = suc (opened b + opened bs)
opened (G.follow a b) = opened a + opened b

-- How many tokens there are before the first action in the braces of a do, a while, a branch.
abbrev pub to_do : G.Count → ℕ
to_do n = length (mark T.DO ∷ digits n (mark T.LB ∷ []))

abbrev pub to_while : G.Claim → ℕ
to_while c = length (mark T.WHILE ∷ mark T.LS ∷ spell_claim c (mark T.LB ∷ []))

abbrev pub to_try : G.Claim → ℕ
to_try c = length (to_brace T.TRY c [])

-- .. and in an action, in the actions of a block and the brace behind them.
abbrev pub in_tokens : {k : Kind} → Act k → ℕ
in_tokens a = length (spell_act a [])

abbrev pub in_braces : Act G.actions → ℕ
in_braces b = length (spell_act b (mark T.RB ∷ []))

-- What stands directly in a block: its actions; of the branches of a try, these.
abbrev pub Direct : Kind → Type 0
Direct G.action = Owned
Direct G.actions = List Owned
Direct G.branches = List Branch

abbrev pub branch : ℕ → M.Claim → Branch
branch k c = record { block = k; claim = c }

module _ (ks : List Known) where
  -- The next brace opens block k, and at is the next token.
  unfoldable pub direct : {j : Kind} → Act j → ℕ → ℕ → Direct j
  unfolding means opened
  direct (G.hold e) k at = owned (R.ACTION (M.HOLD (means ks e))) at
  direct (G.priority e) k at = owned (R.ACTION (M.PRIO (means ks e))) at
  direct (G.trace e) k at = owned (R.ACTION (M.TRACE (means ks e))) at
  direct (G.set x e) k at = owned (R.ACTION (store_in ks x (means ks e))) at
  direct (G.repeat n b) k at = owned (R.ACTION (M.DO n.value k)) at
  direct (G.put_r x n) k at = owned (R.ACTION (M.PUTR (number_of ks x) n.value)) at
  direct (G.put_b x n) k at = owned (R.ACTION (M.PUTB (number_of ks x) n.value)) at
  direct (G.put_s x n) k at = owned (R.ACTION (M.PUTS (number_of ks x) n.value)) at
  direct (G.become x) k at = owned (R.ACTION (M.BECOME (number_of ks x))) at
  direct (G.req c) k at = owned (R.ACTION (M.REQ (claim_of ks c))) at
  direct (G.try c b bs) k at =
      owned (R.ACTION (M.TRY (branch k (claim_of ks c) ∷ direct bs (suc k + opened b) (at + to_try c + in_braces b)))) at
  direct (G.while c b) k at = owned (R.ACTION (M.WHILE k (claim_of ks c))) at
  direct (G.start x n g) k at = owned (R.ACTION (M.START (number_of ks x) n.value (shares_of ks g))) at
  direct G.close k at = owned (R.ACTION M.CLOSE) at
  direct G.no_branches k at = []
  direct (G.etry c b bs) k at = branch k (claim_of ks c) ∷ direct bs (suc k + opened b) (at + to_try c + in_braces b)
  direct G.no_actions k at = []
  direct (G.follow a b) k at = direct a k at ∷ direct b (k + opened a) (at + in_tokens a)

  -- The blocks inside, from block k on, each with its BLOCK record and what stands directly in it. `own` is the token that the
  -- try begins with to which branches belong.
  unfoldable pub inside : {j : Kind} → Act j → ℕ → ℕ → ℕ → List Owned
  unfolding direct
  inside (G.hold e) own k at = []
  inside (G.priority e) own k at = []
  inside (G.trace e) own k at = []
  inside (G.set x e) own k at = []
  inside (G.put_r x n) own k at = []
  inside (G.put_b x n) own k at = []
  inside (G.put_s x n) own k at = []
  inside (G.become x) own k at = []
  inside (G.req c) own k at = []
  inside (G.start x n g) own k at = []
  inside G.close own k at = []
  inside G.no_branches own k at = []
  inside G.no_actions own k at = []
  inside (G.repeat n b) own k at =
      owned R.BLOCK at ∷ direct b (suc k) (at + to_do n) ++ inside b own (suc k) (at + to_do n)
  inside (G.while c b) own k at =
      owned R.BLOCK at ∷ direct b (suc k) (at + to_while c) ++ inside b own (suc k) (at + to_while c)
  inside (G.try c b bs) own k at =
      owned R.BLOCK at ∷ direct b (suc k) (at + to_try c) ++ inside b own (suc k) (at + to_try c)
      ++ inside bs at (suc k + opened b) (at + to_try c + in_braces b)
  inside (G.etry c b bs) own k at =
      owned R.BLOCK own ∷ direct b (suc k) (at + to_try c) ++ inside b own (suc k) (at + to_try c)
      ++ inside bs own (suc k + opened b) (at + to_try c + in_braces b)
  inside (G.follow a b) own k at = inside a own k at ++ inside b own (k + opened a) (at + in_tokens a)

-- CLASSES. Its body is the block that the brace of its one line with a body opens, where the next brace opens block k.
abbrev pub opened_by : Declaration → ℕ
opened_by (G.res x n) = 0
opened_by (G.bin x n) = 0
opened_by (G.sync x) = 0
opened_by (G.var x n) = 0
opened_by (G.sampler x a b n) = 0
opened_by (G.class x G.announced) = 0
opened_by (G.class x (G.body l b)) = suc (opened b)
opened_by (G.entity x n) = 0

abbrev pub embodied : Name → Declaration → Bool
embodied x (G.res y n) = false
embodied x (G.bin y n) = false
embodied x (G.sync y) = false
embodied x (G.var y n) = false
embodied x (G.sampler y a b n) = false
embodied x (G.class y G.announced) = false
embodied x (G.class y (G.body l b)) = same_bytes x y
embodied x (G.entity y n) = false

unfoldable pub body_block : Name → ℕ → Text → ℕ
unfolding opened
body_block x k [] = No.no_body
body_block x k (d ∷ ds) = if embodied x d then k else body_block x (k + opened_by d) ds

-- DECLARATIONS. What is declared writes one record, a class where it is first declared.
abbrev pub entry_of : List Known → ℕ → Declaration → Text → List Entry
entry_of ks k (G.res x n) ds = R.RES n.value ∷ []
entry_of ks k (G.bin x n) ds = R.BIN n.value ∷ []
entry_of ks k (G.sync x) ds = R.SYNC ∷ []
entry_of ks k (G.var x n) ds = R.VAR (signed_of n) ∷ []
entry_of ks k (G.sampler x a b n) ds =
    R.SAMPLER (record { lowest = signed_of a; highest = signed_of b; seed = n.value }) ∷ []
entry_of ks k (G.class x b) ds = if any (named x) ks then [] else R.CLASS (body_block x k (G.class x b ∷ ds)) ∷ []
entry_of ks k (G.entity x n) ds = R.ENTITY (record { class = number_of ks x; offset = n.value }) ∷ []

unfoldable pub declarations : List Known → ℕ → ℕ → Text → List Owned
unfolding body_block after
declarations ks k at [] = []
declarations ks k at (d ∷ ds) =
    map (λ e. owned e at) (entry_of ks k d ds)
    ++ declarations (after ks (in_declaration d)) (k + opened_by d) (at + length (declare d [])) ds

-- THE BLOCKS of a class, and of all.
abbrev pub to_body : Locals → ℕ
to_body l = length (mark T.CLASS ∷ mark T.CLASS ∷ mark T.LB ∷ spell_locals l [])

abbrev pub blocks_of : List Known → ℕ → ℕ → Declaration → List Owned
blocks_of ks k at (G.res x n) = []
blocks_of ks k at (G.bin x n) = []
blocks_of ks k at (G.sync x) = []
blocks_of ks k at (G.var x n) = []
blocks_of ks k at (G.sampler x a b n) = []
blocks_of ks k at (G.class x G.announced) = []
blocks_of ks k at (G.class x (G.body l b)) =
    let in_body : List Known = after ks (embodies x ∷ in_locals l) in
    owned R.BLOCK at ∷ direct in_body b (suc k) (at + to_body l) ++ inside in_body b at (suc k) (at + to_body l)
blocks_of ks k at (G.entity x n) = []

unfoldable pub blocks : List Known → ℕ → ℕ → Text → List Owned
unfolding inside after
blocks ks k at [] = []
blocks ks k at (d ∷ ds) =
    blocks_of ks k at d ++ blocks (after ks (in_declaration d)) (k + opened_by d) (at + length (declare d [])) ds

-- All of it, in the order of the file.
unfoldable pub records : Text → List Owned
unfolding declarations blocks
records t = declarations [] 0 0 t ++ blocks [] 0 0 t
