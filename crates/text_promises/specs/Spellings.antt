-- What stands in the spelling of a text: the names of its events, in their order, and the end, which is its last token.
-- Assumes nothing.
use Rattle.std.specs.Prelude.{ℕ, ◌≡◌, refl, List, [], ◌∷◌, ◌++◌, eqb, if◌then◌else◌}
use Rattle.std.proofs.Common.{sym, ◌∙◌, ap, append-nil, append_assoc}
use Rattle.semantics.specs.Words.{collect}
use Rattle.semantics.specs.Model as M
use Rattle.promises.specs.Laws.{if_has}
use Rattle.text_semantics.specs.Token as K
use Rattle.text_semantics.specs.Token.{Token, name, number, mark, bad}
use Rattle.text_semantics.specs.Grammar as G
use Rattle.text_semantics.specs.Grammar.{Name, Part, Ex, Signed, Item, Claim, Give, Gives, Kind, Act, Few, Locals, Body}
use Rattle.text_semantics.specs.Grammar.{Declaration, Text, spell, spell_signed, spell_item, spell_items, spell_claim, spell_given}
use Rattle.text_semantics.specs.Grammar.{spell_gives, spell_act, spell_few, spell_locals, spell_body, declare, spell_text, relation}
use Rattle.text_semantics.specs.Names.{Event, asks, declares, announces, embodies, leaves, in_ex, in_item, in_claim, in_give}
use Rattle.text_semantics.specs.Names.{in_gives, in_act, in_few, in_locals, in_class, in_declaration, events}
use Rattle.text_promises.specs.Tables.{nil-cons}

-- WHAT IS HEARD OF TOKENS: their names up to the end, and what is behind it.
data Heard : Type 0 where
  silent : Heard
  ended : List Token → Heard
  called : Name → Heard → Heard

abbrev heard : List Token → Heard
heard [] = silent
heard (name x ∷ ts) = called x (heard ts)
heard (number n ∷ ts) = heard ts
heard (mark k ∷ ts) = if eqb k K.END then ended ts else heard ts
heard (bad ∷ ts) = heard ts

-- .. and of events, before what is heard then.
abbrev calls : Event → Heard → Heard
calls (asks ws x) h = called x h
calls (declares w x) h = called x h
calls (announces x) h = called x h
calls (embodies x) h = called x h
calls leaves h = h

abbrev calls_of : List Event → Heard → Heard
calls_of [] h = h
calls_of (e ∷ es) h = calls e (calls_of es h)

calls_append : (es fs : List Event) (h : Heard) → calls_of (es ++ fs) h ≡ calls_of es (calls_of fs h)
calls_append [] fs h = refl
calls_append (e ∷ es) fs h = ap (λ x. calls e x) (calls_append es fs h)

both : {x y : Heard} (es fs : List Event) (r : List Token) → x ≡ calls_of es y → y ≡ calls_of fs (heard r)
    → x ≡ calls_of (es ++ fs) (heard r)
both es fs r e f = e ∙ ap (λ x. calls_of es x) f ∙ sym (calls_append es fs (heard r))

-- IN A SPELLING the events of what is spelled are heard.
in_ex_lem : {p : Part} (v : Ex p) (r : List Token) → heard (spell v r) ≡ calls_of (in_ex v) (heard r)
in_ex_lem (G.sum t ts) r = both (in_ex t) (in_ex ts) r (in_ex_lem t (spell ts r)) (in_ex_lem ts r)
in_ex_lem G.no_terms r = refl
in_ex_lem (G.plus t ts) r = both (in_ex t) (in_ex ts) r (in_ex_lem t (spell ts r)) (in_ex_lem ts r)
in_ex_lem (G.less t ts) r = both (in_ex t) (in_ex ts) r (in_ex_lem t (spell ts r)) (in_ex_lem ts r)
in_ex_lem (G.product f fs) r = both (in_ex f) (in_ex fs) r (in_ex_lem f (spell fs r)) (in_ex_lem fs r)
in_ex_lem G.no_factors r = refl
in_ex_lem (G.times f fs) r = both (in_ex f) (in_ex fs) r (in_ex_lem f (spell fs r)) (in_ex_lem fs r)
in_ex_lem (G.literal n) r = refl
in_ex_lem (G.plain a) r = in_ex_lem a r
in_ex_lem (G.negative m) r = in_ex_lem m r
in_ex_lem (G.magnitude n) r = refl
in_ex_lem (G.negated a) r = in_ex_lem a r
in_ex_lem (G.again m) r = in_ex_lem m r
in_ex_lem (G.value x) r = refl
in_ex_lem G.clock r = refl
in_ex_lem (G.bracket e) r = in_ex_lem e (mark K.RP ∷ r)
in_ex_lem (G.lesser a b) r =
    both (in_ex a) (in_ex b) r (in_ex_lem a (mark K.COMMA ∷ spell b (mark K.RP ∷ r))) (in_ex_lem b (mark K.RP ∷ r))
in_ex_lem (G.greater a b) r =
    both (in_ex a) (in_ex b) r (in_ex_lem a (mark K.COMMA ∷ spell b (mark K.RP ∷ r))) (in_ex_lem b (mark K.RP ∷ r))

in_signed : (n : Signed) (r : List Token) → heard (spell_signed n r) ≡ heard r
in_signed (G.upward n) r = refl
in_signed (G.downward n) r = refl

in_relation : (k : M.Relation) (r : List Token) → heard (mark (relation k) ∷ r) ≡ heard r
in_relation M.below r = refl
in_relation M.at_most r = refl
in_relation M.equals r = refl
in_relation M.differs r = refl
in_relation M.at_least r = refl
in_relation M.above r = refl

in_item_lem : (i : Item) (r : List Token) → heard (spell_item i r) ≡ calls_of (in_item i) (heard r)
in_item_lem (G.get_r x n) r = refl
in_item_lem (G.get_b x n) r = refl
in_item_lem (G.get_s x n) r = refl
in_item_lem (G.condition x k n) r = ap (λ h. called x h) (in_relation k (spell_signed n r) ∙ in_signed n r)

in_items : (is : List Item) (r : List Token) → heard (spell_items is r) ≡ calls_of (collect in_item is) (heard r)
in_items [] r = refl
in_items (i ∷ is) r = both (in_item i) (collect in_item is) r (in_item_lem i (spell_items is r)) (in_items is r)

in_claim_lem : (c : Claim) (r : List Token) → heard (spell_claim c r) ≡ calls_of (in_claim c) (heard r)
in_claim_lem G.nothing r = refl
in_claim_lem (G.claim i is) r =
    both (in_item i) (collect in_item is) r (in_item_lem i (spell_items is (mark K.RS ∷ r))) (in_items is (mark K.RS ∷ r))

in_given : (gs : List Give) (r : List Token) → heard (spell_given gs r) ≡ calls_of (collect in_give gs) (heard r)
in_given [] r = refl
in_given (G.give x n ∷ gs) r = ap (λ h. called x h) (in_given gs r)

in_gives_lem : (g : Gives) (r : List Token) → heard (spell_gives g r) ≡ calls_of (in_gives g) (heard r)
in_gives_lem G.no_gives r = refl
in_gives_lem (G.gives x n gs) r = ap (λ h. called x h) (in_given gs (mark K.RS ∷ r))

in_act_lem : {k : Kind} (a : Act k) (r : List Token) → heard (spell_act a r) ≡ calls_of (in_act a) (heard r)
in_act_lem (G.hold e) r = in_ex_lem e (mark K.RP ∷ mark K.SEMI ∷ r)
in_act_lem (G.priority e) r = in_ex_lem e (mark K.RP ∷ mark K.SEMI ∷ r)
in_act_lem (G.trace e) r = in_ex_lem e (mark K.RP ∷ mark K.SEMI ∷ r)
in_act_lem (G.set x e) r = ap (λ h. called x h) (in_ex_lem e (mark K.SEMI ∷ r))
in_act_lem (G.repeat n b) r = in_act_lem b (mark K.RB ∷ r)
in_act_lem (G.put_r x n) r = refl
in_act_lem (G.put_b x n) r = refl
in_act_lem (G.put_s x n) r = refl
in_act_lem (G.become x) r = refl
in_act_lem (G.req c) r = in_claim_lem c (mark K.SEMI ∷ r)
in_act_lem (G.try c b bs) r =
    let rest : List Token = mark K.RB ∷ spell_act bs r in
    both (in_claim c ++ in_act b) (in_act bs) r
    (both (in_claim c) (in_act b) rest (in_claim_lem c (mark K.THEN ∷ mark K.LB ∷ spell_act b rest)) (in_act_lem b rest)) (in_act_lem bs r)
in_act_lem (G.while c b) r =
    both (in_claim c) (in_act b) r (in_claim_lem c (mark K.LB ∷ spell_act b (mark K.RB ∷ r))) (in_act_lem b (mark K.RB ∷ r))
in_act_lem (G.start x n g) r = ap (λ h. called x h) (in_gives_lem g (mark K.RP ∷ mark K.SEMI ∷ r))
in_act_lem G.close r = refl
in_act_lem G.no_branches r = refl
in_act_lem (G.etry c b bs) r =
    let rest : List Token = mark K.RB ∷ spell_act bs r in
    both (in_claim c ++ in_act b) (in_act bs) r
    (both (in_claim c) (in_act b) rest (in_claim_lem c (mark K.THEN ∷ mark K.LB ∷ spell_act b rest)) (in_act_lem b rest)) (in_act_lem bs r)
in_act_lem G.no_actions r = refl
in_act_lem (G.follow a b) r = both (in_act a) (in_act b) r (in_act_lem a (spell_act b r)) (in_act_lem b r)

in_few_lem : {k : ℕ} (xs : Few k) (r : List Token) → heard (spell_few xs r) ≡ calls_of (in_few xs) (heard r)
in_few_lem G.no_names r = refl
in_few_lem (G.also x xs) r = ap (λ h. called x h) (in_few_lem xs r)

in_locals_lem : (l : Locals) (r : List Token) → heard (spell_locals l r) ≡ calls_of (in_locals l) (heard r)
in_locals_lem G.no_locals r = refl
in_locals_lem (G.locals x xs) r = ap (λ h. called x h) (in_few_lem xs (mark K.SEMI ∷ r))

in_body : (x : Name) (b : Body) (r : List Token) → called x (heard (spell_body b r)) ≡ calls_of (in_class x b) (heard r)
in_body x G.announced r = refl
in_body x (G.body l b) r =
    let rest : List Token = mark K.RB ∷ r in
    ap (λ h. called x h) (both (in_locals l ++ in_act b) (leaves ∷ []) r
    (both (in_locals l) (in_act b) rest (in_locals_lem l (spell_act b rest)) (in_act_lem b rest)) refl)

in_declaration_lem : (d : Declaration) (r : List Token) → heard (declare d r) ≡ calls_of (in_declaration d) (heard r)
in_declaration_lem (G.res x n) r = refl
in_declaration_lem (G.bin x n) r = refl
in_declaration_lem (G.sync x) r = refl
in_declaration_lem (G.var x n) r = ap (λ h. called x h) (in_signed n (mark K.RP ∷ mark K.SEMI ∷ r))
in_declaration_lem (G.sampler x a b n) r =
    ap (λ h. called x h)
    (in_signed a (mark K.COMMA ∷ spell_signed b (mark K.COMMA ∷ G.digits n (mark K.RP ∷ mark K.SEMI ∷ r)))
    ∙ in_signed b (mark K.COMMA ∷ G.digits n (mark K.RP ∷ mark K.SEMI ∷ r)))
in_declaration_lem (G.class x b) r = in_body x b r
in_declaration_lem (G.entity x n) r = refl

in_text : (t : Text) (r : List Token) → heard (spell_text t r) ≡ calls_of (events t) (ended r)
in_text [] r = refl
in_text (d ∷ ds) r = both (in_declaration d) (events ds) (mark K.END ∷ r) (in_declaration_lem d (spell_text ds r)) (in_text ds r)

-- THE NAMES of tokens, and those of events.
abbrev pub name_in : Token → List Name
name_in (name x) = x ∷ []
name_in (number n) = []
name_in (mark k) = []
name_in bad = []

abbrev pub name_by : Event → List Name
name_by (asks ws x) = x ∷ []
name_by (declares w x) = x ∷ []
name_by (announces x) = x ∷ []
name_by (embodies x) = x ∷ []
name_by leaves = []

abbrev pub names_in : List Token → List Name
names_in ts = collect name_in ts

abbrev pub names_by : List Event → List Name
names_by es = collect name_by es

pub names_append : (ts us : List Token) → names_in (ts ++ us) ≡ names_in ts ++ names_in us
names_append [] us = refl
names_append (t ∷ ts) us =
    ap (λ xs. name_in t ++ xs) (names_append ts us) ∙ sym (append_assoc (name_in t) (names_in ts) (names_in us))

pub names_parts : (es : List Event) (e : Event) (fs : List Event) (x : Name) → name_by e ≡ x ∷ []
    → names_by (es ++ e ∷ fs) ≡ names_by es ++ x ∷ names_by fs
names_parts [] e fs x h = ap (λ xs. xs ++ names_by fs) h
names_parts (g ∷ es) e fs x h =
    ap (λ xs. name_by g ++ xs) (names_parts es e fs x h) ∙ sym (append_assoc (name_by g) (names_by es) (x ∷ names_by fs))

abbrev callers : Heard → List Name
callers silent = []
callers (ended ts) = names_in ts
callers (called x h) = x ∷ callers h

heard_names : (ts : List Token) → callers (heard ts) ≡ names_in ts
heard_names [] = refl
heard_names (name x ∷ ts) = ap (λ xs. x ∷ xs) (heard_names ts)
heard_names (number n ∷ ts) = heard_names ts
heard_names (mark k ∷ ts) =
    let ih = heard_names ts in if_has (λ (h : Heard). callers h ≡ names_in ts) (eqb k K.END) (λ e. refl) (λ e. ih)
heard_names (bad ∷ ts) = heard_names ts

called_names : (es : List Event) (h : Heard) → callers (calls_of es h) ≡ names_by es ++ callers h
called_names [] h = refl
called_names (asks ws x ∷ es) h = ap (λ xs. x ∷ xs) (called_names es h)
called_names (declares w x ∷ es) h = ap (λ xs. x ∷ xs) (called_names es h)
called_names (announces x ∷ es) h = ap (λ xs. x ∷ xs) (called_names es h)
called_names (embodies x ∷ es) h = ap (λ xs. x ∷ xs) (called_names es h)
called_names (leaves ∷ es) h = called_names es h

-- The names in the spelling of a text are those of its events, in their order.
pub names_spelled : (t : Text) → names_in (spell_text t []) ≡ names_by (events t)
names_spelled t =
    sym (heard_names (spell_text t [])) ∙ ap callers (in_text t []) ∙ called_names (events t) (ended [])
    ∙ append-nil (names_by (events t))

-- THE END IS LAST. What is behind the end.
abbrev Behind : List Token → Heard → Type 0
Behind r silent = ⊥
Behind r (ended ts) = ts ≡ r
Behind r (called x h) = Behind r h

called_behind : (es : List Event) (r : List Token) → Behind r (calls_of es (ended r))
called_behind [] r = refl
called_behind (asks ws x ∷ es) r = called_behind es r
called_behind (declares w x ∷ es) r = called_behind es r
called_behind (announces x ∷ es) r = called_behind es r
called_behind (embodies x ∷ es) r = called_behind es r
called_behind (leaves ∷ es) r = called_behind es r

no_more : {P : Type 0} (ts : List Token) (x : Token) (ys : List Token) → ts ++ x ∷ ys ≡ [] → P
no_more [] x ys e = nil-cons (sym e)
no_more (t ∷ ts) x ys e = nil-cons (sym e)

heard_behind : (ts ys : List Token) → Behind [] (heard (ts ++ mark K.END ∷ ys)) → ys ≡ []
heard_behind [] ys h = h
heard_behind (name x ∷ ts) ys h = heard_behind ts ys h
heard_behind (number n ∷ ts) ys h = heard_behind ts ys h
heard_behind (mark k ∷ ts) ys h =
    let ih : Behind [] (heard (ts ++ mark K.END ∷ ys)) → ys ≡ [] = λ x. heard_behind ts ys x in
    if_has (λ (x : Heard). Behind [] x → ys ≡ []) (eqb k K.END) (λ e x. no_more ts (mark K.END) ys x) (λ e. ih) h
heard_behind (bad ∷ ts) ys h = heard_behind ts ys h

-- Nothing of the spelling of a text stands behind an end.
pub end_last : (t : Text) (ts ys : List Token) → spell_text t [] ≡ ts ++ mark K.END ∷ ys → ys ≡ []
end_last t ts ys e =
    let there : Behind [] (heard (spell_text t [])) = rw (in_text t []) (called_behind (events t) []) in
    heard_behind ts ys (rw e at there)
