-- A spelling is the same whatever follows it: what is spelled before r is what is spelled before nothing, and then r.
-- Assumes nothing.
use Rattle.std.specs.Prelude.{ℕ, ◌≡◌, refl, List, [], ◌∷◌, ◌++◌}
use Rattle.std.proofs.Common.{sym, ◌∙◌, ap, append-nil, append_assoc}
use Rattle.text_semantics.specs.Token as K
use Rattle.text_semantics.specs.Token.{Token, name, mark}
use Rattle.text_semantics.specs.Grammar as G
use Rattle.text_semantics.specs.Grammar.{Part, Ex, Signed, Item, Claim, Give, Gives, Kind, Act, Few, Locals, Body, Declaration}
use Rattle.text_semantics.specs.Grammar.{spell, spell_signed, spell_item, spell_items, spell_claim, spell_given, spell_gives}
use Rattle.text_semantics.specs.Grammar.{to_brace, spell_act, spell_few, spell_locals, spell_body, declare, pair, digits, relation}

abbrev pub Plain : (List Token → List Token) → Type 0
Plain f = (r : List Token) → f r ≡ f [] ++ r

-- One behind the other, behind tokens, and before tokens.
pub two : (f g : List Token → List Token) → Plain f → Plain g → Plain (λ r. f (g r))
two f g p q r =
    p (g r) ∙ ap (λ l. f [] ++ l) (q r) ∙ sym (append_assoc (f []) (g []) r) ∙ ap (λ l. l ++ r) (sym (p (g [])))

pub behind : (ks : List Token) (f : List Token → List Token) → Plain f → Plain (λ r. ks ++ f r)
behind ks f p r = ap (λ l. ks ++ l) (p r) ∙ sym (append_assoc ks (f []) r)

pub before : (f : List Token → List Token) (ks : List Token) → Plain f → Plain (λ r. f (ks ++ r))
before f ks p r =
    p (ks ++ r) ∙ sym (append_assoc (f []) ks r)
    ∙ ap (λ l. l ++ r) (sym (p (ks ++ []) ∙ ap (λ l. f [] ++ l) (append-nil ks)))

pub ex_plain : {p : Part} (v : Ex p) → Plain (spell v)
ex_plain (G.sum t ts) = two (spell t) (spell ts) (ex_plain t) (ex_plain ts)
ex_plain G.no_terms = λ r. refl
ex_plain (G.plus t ts) =
    behind (mark K.PLUS ∷ []) (λ r. spell t (spell ts r)) (two (spell t) (spell ts) (ex_plain t) (ex_plain ts))
ex_plain (G.less t ts) =
    behind (mark K.MINUS ∷ []) (λ r. spell t (spell ts r)) (two (spell t) (spell ts) (ex_plain t) (ex_plain ts))
ex_plain (G.product f fs) = two (spell f) (spell fs) (ex_plain f) (ex_plain fs)
ex_plain G.no_factors = λ r. refl
ex_plain (G.times f fs) =
    behind (mark K.STAR ∷ []) (λ r. spell f (spell fs r)) (two (spell f) (spell fs) (ex_plain f) (ex_plain fs))
ex_plain (G.literal n) = λ r. refl
ex_plain (G.plain a) = ex_plain a
ex_plain (G.negative m) = behind (mark K.MINUS ∷ []) (spell m) (ex_plain m)
ex_plain (G.magnitude n) = λ r. refl
ex_plain (G.negated a) = ex_plain a
ex_plain (G.again m) = behind (mark K.MINUS ∷ []) (spell m) (ex_plain m)
ex_plain (G.value x) = λ r. refl
ex_plain G.clock = λ r. refl
ex_plain (G.bracket e) = behind (mark K.LP ∷ []) (λ r. spell e (mark K.RP ∷ r)) (before (spell e) (mark K.RP ∷ []) (ex_plain e))
ex_plain (G.lesser a b) =
    behind (mark K.LESSER ∷ mark K.LP ∷ []) (λ r. spell a (mark K.COMMA ∷ spell b (mark K.RP ∷ r)))
    (two (λ r. spell a (mark K.COMMA ∷ r)) (λ r. spell b (mark K.RP ∷ r))
    (before (spell a) (mark K.COMMA ∷ []) (ex_plain a)) (before (spell b) (mark K.RP ∷ []) (ex_plain b)))
ex_plain (G.greater a b) =
    behind (mark K.GREATER ∷ mark K.LP ∷ []) (λ r. spell a (mark K.COMMA ∷ spell b (mark K.RP ∷ r)))
    (two (λ r. spell a (mark K.COMMA ∷ r)) (λ r. spell b (mark K.RP ∷ r))
    (before (spell a) (mark K.COMMA ∷ []) (ex_plain a)) (before (spell b) (mark K.RP ∷ []) (ex_plain b)))

pub signed_plain : (n : Signed) → Plain (spell_signed n)
signed_plain (G.upward n) = λ r. refl
signed_plain (G.downward n) = λ r. refl

item_plain : (i : Item) → Plain (spell_item i)
item_plain (G.get_r x n) = λ r. refl
item_plain (G.get_b x n) = λ r. refl
item_plain (G.get_s x n) = λ r. refl
item_plain (G.condition x k n) = behind (name x ∷ mark (relation k) ∷ []) (spell_signed n) (signed_plain n)

items_plain : (is : List Item) → Plain (spell_items is)
items_plain [] = λ r. refl
items_plain (i ∷ is) =
    behind (mark K.COMMA ∷ []) (λ r. spell_item i (spell_items is r))
    (two (spell_item i) (spell_items is) (item_plain i) (items_plain is))

claim_plain : (c : Claim) → Plain (spell_claim c)
claim_plain G.nothing = λ r. refl
claim_plain (G.claim i is) =
    two (spell_item i) (λ r. spell_items is (mark K.RS ∷ r)) (item_plain i)
    (before (spell_items is) (mark K.RS ∷ []) (items_plain is))

given_plain : (gs : List Give) → Plain (spell_given gs)
given_plain [] = λ r. refl
given_plain (G.give x n ∷ gs) = behind (mark K.COMMA ∷ pair x n []) (spell_given gs) (given_plain gs)

pub gives_plain : (g : Gives) → Plain (spell_gives g)
gives_plain G.no_gives = λ r. refl
gives_plain (G.gives x n gs) =
    behind (mark K.COMMA ∷ mark K.LS ∷ pair x n []) (λ r. spell_given gs (mark K.RS ∷ r))
    (before (spell_given gs) (mark K.RS ∷ []) (given_plain gs))

-- A keyword and a claim up to a brace, where ks stand between.
pub claimed : (k : ℕ) (c : Claim) (ks : List Token) → Plain (λ r. mark k ∷ mark K.LS ∷ spell_claim c (ks ++ r))
claimed k c ks = behind (mark k ∷ mark K.LS ∷ []) (λ r. spell_claim c (ks ++ r)) (before (spell_claim c) ks (claim_plain c))

pub act_plain : {k : Kind} (a : Act k) → Plain (spell_act a)
act_plain (G.hold e) =
    behind (mark K.HOLD ∷ mark K.LP ∷ []) (λ r. spell e (mark K.RP ∷ mark K.SEMI ∷ r))
    (before (spell e) (mark K.RP ∷ mark K.SEMI ∷ []) (ex_plain e))
act_plain (G.priority e) =
    behind (mark K.PRIORITY ∷ mark K.LP ∷ []) (λ r. spell e (mark K.RP ∷ mark K.SEMI ∷ r))
    (before (spell e) (mark K.RP ∷ mark K.SEMI ∷ []) (ex_plain e))
act_plain (G.trace e) =
    behind (mark K.TRACE ∷ mark K.LP ∷ []) (λ r. spell e (mark K.RP ∷ mark K.SEMI ∷ r))
    (before (spell e) (mark K.RP ∷ mark K.SEMI ∷ []) (ex_plain e))
act_plain (G.set x e) =
    behind (name x ∷ mark K.BECOMES ∷ []) (λ r. spell e (mark K.SEMI ∷ r)) (before (spell e) (mark K.SEMI ∷ []) (ex_plain e))
act_plain (G.repeat n b) =
    behind (mark K.DO ∷ digits n (mark K.LB ∷ [])) (λ r. spell_act b (mark K.RB ∷ r))
    (before (spell_act b) (mark K.RB ∷ []) (act_plain b))
act_plain (G.put_r x n) = λ r. refl
act_plain (G.put_b x n) = λ r. refl
act_plain (G.put_s x n) = λ r. refl
act_plain (G.become x) = λ r. refl
act_plain (G.req c) = claimed K.REQ c (mark K.SEMI ∷ [])
act_plain (G.try c b bs) =
    two (to_brace K.TRY c) (λ r. spell_act b (mark K.RB ∷ spell_act bs r)) (claimed K.TRY c (mark K.THEN ∷ mark K.LB ∷ []))
    (two (λ r. spell_act b (mark K.RB ∷ r)) (spell_act bs) (before (spell_act b) (mark K.RB ∷ []) (act_plain b)) (act_plain bs))
act_plain (G.while c b) =
    two (λ r. mark K.WHILE ∷ mark K.LS ∷ spell_claim c (mark K.LB ∷ r)) (λ r. spell_act b (mark K.RB ∷ r))
    (claimed K.WHILE c (mark K.LB ∷ [])) (before (spell_act b) (mark K.RB ∷ []) (act_plain b))
act_plain (G.start x n g) =
    behind (mark K.START ∷ mark K.LP ∷ name x ∷ mark K.COMMA ∷ digits n []) (λ r. spell_gives g (mark K.RP ∷ mark K.SEMI ∷ r))
    (before (spell_gives g) (mark K.RP ∷ mark K.SEMI ∷ []) (gives_plain g))
act_plain G.close = λ r. refl
act_plain G.no_branches = λ r. refl
act_plain (G.etry c b bs) =
    two (to_brace K.ETRY c) (λ r. spell_act b (mark K.RB ∷ spell_act bs r)) (claimed K.ETRY c (mark K.THEN ∷ mark K.LB ∷ []))
    (two (λ r. spell_act b (mark K.RB ∷ r)) (spell_act bs) (before (spell_act b) (mark K.RB ∷ []) (act_plain b)) (act_plain bs))
act_plain G.no_actions = λ r. refl
act_plain (G.follow a b) = two (spell_act a) (spell_act b) (act_plain a) (act_plain b)

pub few_plain : {k : ℕ} (xs : Few k) → Plain (spell_few xs)
few_plain G.no_names = λ r. refl
few_plain (G.also x xs) = behind (mark K.COMMA ∷ name x ∷ []) (spell_few xs) (few_plain xs)

pub locals_plain : (l : Locals) → Plain (spell_locals l)
locals_plain G.no_locals = λ r. refl
locals_plain (G.locals x xs) =
    behind (mark K.LOCAL ∷ name x ∷ []) (λ r. spell_few xs (mark K.SEMI ∷ r))
    (before (spell_few xs) (mark K.SEMI ∷ []) (few_plain xs))

body_plain : (b : Body) → Plain (spell_body b)
body_plain G.announced = λ r. refl
body_plain (G.body l b) =
    behind (mark K.LB ∷ []) (λ r. spell_locals l (spell_act b (mark K.RB ∷ r)))
    (two (spell_locals l) (λ r. spell_act b (mark K.RB ∷ r)) (locals_plain l)
    (before (spell_act b) (mark K.RB ∷ []) (act_plain b)))

pub declare_plain : (d : Declaration) → Plain (declare d)
declare_plain (G.res x n) = λ r. refl
declare_plain (G.bin x n) = λ r. refl
declare_plain (G.sync x) = λ r. refl
declare_plain (G.var x n) =
    behind (mark K.VAR ∷ mark K.LP ∷ name x ∷ mark K.COMMA ∷ []) (λ r. spell_signed n (mark K.RP ∷ mark K.SEMI ∷ r))
    (before (spell_signed n) (mark K.RP ∷ mark K.SEMI ∷ []) (signed_plain n))
declare_plain (G.sampler x a b n) =
    behind (mark K.SAMPLER ∷ mark K.LP ∷ name x ∷ mark K.COMMA ∷ [])
    (λ r. spell_signed a (mark K.COMMA ∷ spell_signed b (mark K.COMMA ∷ digits n (mark K.RP ∷ mark K.SEMI ∷ r))))
    (two (λ r. spell_signed a (mark K.COMMA ∷ r)) (λ r. spell_signed b (mark K.COMMA ∷ digits n (mark K.RP ∷ mark K.SEMI ∷ r)))
    (before (spell_signed a) (mark K.COMMA ∷ []) (signed_plain a))
    (before (spell_signed b) (mark K.COMMA ∷ digits n (mark K.RP ∷ mark K.SEMI ∷ [])) (signed_plain b)))
declare_plain (G.class x b) = behind (mark K.CLASS ∷ name x ∷ []) (spell_body b) (body_plain b)
declare_plain (G.entity x n) = λ r. refl
