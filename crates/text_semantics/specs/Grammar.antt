-- The grammar of a text (docs/TEXT.md, section 3): a tree has a constructor for each way that a line of the grammar can go, and
-- its spelling is the tokens of that line. The tokens that follow are the second argument.
-- Assumes nothing.
use Rattle.std.specs.Prelude.{ℕ, suc, List, [], ◌∷◌, T, leb}
use Rattle.semantics.specs.Model.{Relation, below, at_most, equals, differs, at_least, above}
use Rattle.text_semantics.specs.Numbers as No
use Rattle.text_semantics.specs.Token as K
use Rattle.text_semantics.specs.Token.{Token, name, number, mark}

abbrev pub Name : Type 0
Name = List ℕ

-- A number up to b.
pub record Upto (b : ℕ) : Type 0 where
  pub value : ℕ
  pub fits : T (leb value b)

abbrev pub Number : Type 0
Number = Upto No.top_number

abbrev pub Magnitude : Type 0
Magnitude = Upto No.top_magnitude

abbrev pub Count : Type 0
Count = Upto No.top_count

abbrev pub digits : {b : ℕ} → Upto b → List Token → List Token
digits n r = number n.value ∷ r

-- EXPRESSIONS. The number of a part is how many brackets may still be opened in it.
pub data Part : Type 0 where
  expression term terms factor factors minus atom : ℕ → Part

pub data Ex : Part → Type 0 where
  sum : {d : ℕ} → Ex (term d) → Ex (terms d) → Ex (expression d)
  no_terms : {d : ℕ} → Ex (terms d)
  plus less : {d : ℕ} → Ex (term d) → Ex (terms d) → Ex (terms d)
  product : {d : ℕ} → Ex (factor d) → Ex (factors d) → Ex (term d)
  no_factors : {d : ℕ} → Ex (factors d)
  times : {d : ℕ} → Ex (factor d) → Ex (factors d) → Ex (factors d)
  literal : {d : ℕ} → Number → Ex (factor d)
  plain : {d : ℕ} → Ex (atom d) → Ex (factor d)
  negative : {d : ℕ} → Ex (minus d) → Ex (factor d)
  magnitude : {d : ℕ} → Magnitude → Ex (minus d)
  negated : {d : ℕ} → Ex (atom d) → Ex (minus d)
  again : {d : ℕ} → Ex (minus d) → Ex (minus d)
  value : {d : ℕ} → Name → Ex (atom d)
  clock : {d : ℕ} → Ex (atom d)
  bracket : {d : ℕ} → Ex (expression d) → Ex (atom (suc d))
  lesser greater : {d : ℕ} → Ex (expression d) → Ex (expression d) → Ex (atom (suc d))

abbrev pub spell : {p : Part} → Ex p → List Token → List Token
spell (sum t ts) r = spell t (spell ts r)
spell no_terms r = r
spell (plus t ts) r = mark K.PLUS ∷ spell t (spell ts r)
spell (less t ts) r = mark K.MINUS ∷ spell t (spell ts r)
spell (product f fs) r = spell f (spell fs r)
spell no_factors r = r
spell (times f fs) r = mark K.STAR ∷ spell f (spell fs r)
spell (literal n) r = digits n r
spell (plain a) r = spell a r
spell (negative m) r = mark K.MINUS ∷ spell m r
spell (magnitude n) r = digits n r
spell (negated a) r = spell a r
spell (again m) r = mark K.MINUS ∷ spell m r
spell (value x) r = name x ∷ r
spell clock r = mark K.CLOCK ∷ r
spell (bracket e) r = mark K.LP ∷ spell e (mark K.RP ∷ r)
spell (lesser a b) r = mark K.LESSER ∷ mark K.LP ∷ spell a (mark K.COMMA ∷ spell b (mark K.RP ∷ r))
spell (greater a b) r = mark K.GREATER ∷ mark K.LP ∷ spell a (mark K.COMMA ∷ spell b (mark K.RP ∷ r))

abbrev pub Expression : Type 0
Expression = Ex (expression No.brackets)

pub data Signed : Type 0 where
  upward : Number → Signed
  downward : Magnitude → Signed

abbrev pub spell_signed : Signed → List Token → List Token
spell_signed (upward n) r = digits n r
spell_signed (downward n) r = mark K.MINUS ∷ digits n r

-- CLAIMS.
abbrev pub relation : Relation → ℕ
relation below = K.LT
relation at_most = K.LE
relation equals = K.EQ
relation differs = K.NE
relation at_least = K.GE
relation above = K.GT

pub data Item : Type 0 where
  get_r get_b get_s : Name → Number → Item
  condition : Name → Relation → Signed → Item

-- A name and a number in brackets.
abbrev pub pair : {b : ℕ} → Name → Upto b → List Token → List Token
pair x n r = mark K.LP ∷ name x ∷ mark K.COMMA ∷ digits n (mark K.RP ∷ r)

abbrev pub spell_item : Item → List Token → List Token
spell_item (get_r x n) r = mark K.GETR ∷ pair x n r
spell_item (get_b x n) r = mark K.GETB ∷ pair x n r
spell_item (get_s x n) r = mark K.GETS ∷ pair x n r
spell_item (condition x k n) r = name x ∷ mark (relation k) ∷ spell_signed n r

abbrev pub spell_items : List Item → List Token → List Token
spell_items [] r = r
spell_items (i ∷ is) r = mark K.COMMA ∷ spell_item i (spell_items is r)

pub data Claim : Type 0 where
  nothing : Claim
  claim : Item → List Item → Claim

-- What follows the bracket that opens a claim.
abbrev pub spell_claim : Claim → List Token → List Token
spell_claim nothing r = mark K.RS ∷ r
spell_claim (claim i is) r = spell_item i (spell_items is (mark K.RS ∷ r))

-- WHAT A START HANDS OVER.
pub data Give : Type 0 where
  give : Name → Number → Give

abbrev pub spell_given : List Give → List Token → List Token
spell_given [] r = r
spell_given (give x n ∷ gs) r = mark K.COMMA ∷ pair x n (spell_given gs r)

pub data Gives : Type 0 where
  no_gives : Gives
  gives : Name → Number → List Give → Gives

abbrev pub spell_gives : Gives → List Token → List Token
spell_gives no_gives r = r
spell_gives (gives x n gs) r = mark K.COMMA ∷ mark K.LS ∷ pair x n (spell_given gs (mark K.RS ∷ r))

-- ACTIONS; those of a block; and the branches behind the first of a try.
pub data Kind : Type 0 where
  action actions branches : Kind

pub data Act : Kind → Type 0 where
  hold priority trace : Expression → Act action
  set : Name → Expression → Act action
  repeat : Count → Act actions → Act action
  put_r put_b : Name → Number → Act action
  put_s : Name → Count → Act action
  become : Name → Act action
  req : Claim → Act action
  try : Claim → Act actions → Act branches → Act action
  while : Claim → Act actions → Act action
  start : Name → Number → Gives → Act action
  close : Act action
  no_branches : Act branches
  etry : Claim → Act actions → Act branches → Act branches
  no_actions : Act actions
  follow : Act action → Act actions → Act actions

-- From a keyword to the brace that it opens.
abbrev pub to_brace : ℕ → Claim → List Token → List Token
to_brace k c r = mark k ∷ mark K.LS ∷ spell_claim c (mark K.THEN ∷ mark K.LB ∷ r)

abbrev pub spell_act : {k : Kind} → Act k → List Token → List Token
spell_act (hold e) r = mark K.HOLD ∷ mark K.LP ∷ spell e (mark K.RP ∷ mark K.SEMI ∷ r)
spell_act (priority e) r = mark K.PRIORITY ∷ mark K.LP ∷ spell e (mark K.RP ∷ mark K.SEMI ∷ r)
spell_act (trace e) r = mark K.TRACE ∷ mark K.LP ∷ spell e (mark K.RP ∷ mark K.SEMI ∷ r)
spell_act (set x e) r = name x ∷ mark K.BECOMES ∷ spell e (mark K.SEMI ∷ r)
spell_act (repeat n b) r = mark K.DO ∷ digits n (mark K.LB ∷ spell_act b (mark K.RB ∷ r))
spell_act (put_r x n) r = mark K.PUTR ∷ pair x n (mark K.SEMI ∷ r)
spell_act (put_b x n) r = mark K.PUTB ∷ pair x n (mark K.SEMI ∷ r)
spell_act (put_s x n) r = mark K.PUTS ∷ pair x n (mark K.SEMI ∷ r)
spell_act (become x) r = mark K.BECOME ∷ mark K.LP ∷ name x ∷ mark K.RP ∷ mark K.SEMI ∷ r
spell_act (req c) r = mark K.REQ ∷ mark K.LS ∷ spell_claim c (mark K.SEMI ∷ r)
spell_act (try c b bs) r = to_brace K.TRY c (spell_act b (mark K.RB ∷ spell_act bs r))
spell_act (while c b) r = mark K.WHILE ∷ mark K.LS ∷ spell_claim c (mark K.LB ∷ spell_act b (mark K.RB ∷ r))
spell_act (start x n g) r =
    mark K.START ∷ mark K.LP ∷ name x ∷ mark K.COMMA ∷ digits n (spell_gives g (mark K.RP ∷ mark K.SEMI ∷ r))
spell_act close r = mark K.CLOSE ∷ mark K.SEMI ∷ r
spell_act no_branches r = r
spell_act (etry c b bs) r = to_brace K.ETRY c (spell_act b (mark K.RB ∷ spell_act bs r))
spell_act no_actions r = r
spell_act (follow a b) r = spell_act a (spell_act b r)

-- DECLARATIONS. At most k names more.
pub data Few : ℕ → Type 0 where
  no_names : {k : ℕ} → Few k
  also : {k : ℕ} → Name → Few k → Few (suc k)

abbrev pub spell_few : {k : ℕ} → Few k → List Token → List Token
spell_few no_names r = r
spell_few (also x xs) r = mark K.COMMA ∷ name x ∷ spell_few xs r

pub data Locals : Type 0 where
  no_locals : Locals
  locals : Name → Few No.more_locals → Locals

abbrev pub spell_locals : Locals → List Token → List Token
spell_locals no_locals r = r
spell_locals (locals x xs) r = mark K.LOCAL ∷ name x ∷ spell_few xs (mark K.SEMI ∷ r)

pub data Body : Type 0 where
  announced : Body
  body : Locals → Act actions → Body

abbrev pub spell_body : Body → List Token → List Token
spell_body announced r = mark K.SEMI ∷ r
spell_body (body l b) r = mark K.LB ∷ spell_locals l (spell_act b (mark K.RB ∷ r))

pub data Declaration : Type 0 where
  res bin : Name → Number → Declaration
  sync : Name → Declaration
  var : Name → Signed → Declaration
  sampler : Name → Signed → Signed → Number → Declaration
  class : Name → Body → Declaration
  entity : Name → Number → Declaration

abbrev pub declare : Declaration → List Token → List Token
declare (res x n) r = mark K.RES ∷ pair x n (mark K.SEMI ∷ r)
declare (bin x n) r = mark K.BIN ∷ pair x n (mark K.SEMI ∷ r)
declare (sync x) r = mark K.SYNC ∷ mark K.LP ∷ name x ∷ mark K.RP ∷ mark K.SEMI ∷ r
declare (var x n) r = mark K.VAR ∷ mark K.LP ∷ name x ∷ mark K.COMMA ∷ spell_signed n (mark K.RP ∷ mark K.SEMI ∷ r)
declare (sampler x a b n) r =
    mark K.SAMPLER ∷ mark K.LP ∷ name x ∷ mark K.COMMA ∷ spell_signed a
    (mark K.COMMA ∷ spell_signed b (mark K.COMMA ∷ digits n (mark K.RP ∷ mark K.SEMI ∷ r)))
declare (class x b) r = mark K.CLASS ∷ name x ∷ spell_body b r
declare (entity x n) r = mark K.ENTITY ∷ pair x n (mark K.SEMI ∷ r)

abbrev pub Text : Type 0
Text = List Declaration

abbrev pub spell_text : Text → List Token → List Token
spell_text [] r = mark K.END ∷ r
spell_text (d ∷ ds) r = declare d (spell_text ds r)
