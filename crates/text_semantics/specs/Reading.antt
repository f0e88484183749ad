-- The reading of a text: the rules of the grammar, each of which begins with a token. That they read exactly what Grammar spells
-- is promised, so that nothing here has to be believed.
-- Assumes nothing.
use Rattle.std.specs.Prelude.{ℕ, zero, suc, ◌≡◌, refl, List, [], ◌∷◌, ◌++◌, Bool, true, false, T, leb, eqb}
use Rattle.std.proofs.Common.{sym, ◌∙◌, ap, subst, eqb-true}
use Rattle.std.proofs.Math.Option.{Option, none, some}
use Rattle.std.proofs.Math.Dec.{leb-zero}
use Rattle.semantics.specs.Model.{Relation, below, at_most, equals, differs, at_least, above}
use Rattle.text_semantics.specs.Numbers as No
use Rattle.text_semantics.specs.Table.{Result, Values, says, Rule, read}
use Rattle.text_semantics.specs.Token as K
use Rattle.text_semantics.specs.Token.{Token, name, number, mark, bad}
use Rattle.text_semantics.specs.Lexing.{ascii}
use Rattle.text_semantics.specs.Grammar.{Name, Upto, Ex, Signed, Item, Claim, Give, Gives, Act, Few, Locals, Body, Text}
use Rattle.text_semantics.specs.Grammar.{spell, spell_act, spell_item, spell_items, spell_claim, spell_given, spell_gives}
use Rattle.text_semantics.specs.Grammar.{spell_few, spell_locals, spell_body, spell_text, spell_signed, relation}
use Rattle.text_semantics.specs.Grammar.{expression, terms, factor, factors, minus, actions, branches}
use Rattle.text_semantics.specs.Grammar.{sum, no_terms, plus, less, product, no_factors, times, literal, plain, negative}
use Rattle.text_semantics.specs.Grammar.{magnitude, negated, again, value, clock, bracket, lesser, greater, upward}
use Rattle.text_semantics.specs.Grammar.{downward}
use Rattle.text_semantics.specs.Grammar.{get_r, get_b, get_s, condition, nothing, claim, give, no_gives, gives, hold, priority}
use Rattle.text_semantics.specs.Grammar.{trace, set, repeat, put_r, put_b, put_s, become, req, try, while, start, close}
use Rattle.text_semantics.specs.Grammar.{no_branches, etry, no_actions, follow, no_names, also, no_locals, locals, announced}
use Rattle.text_semantics.specs.Grammar.{body, res, bin, sync, var, sampler, class, entity}

-- WHAT A RULE MAY BEGIN WITH, and what is kept of it.
pub data Terminal : Type 0 where
  the : ℕ → Terminal
  a_name : Terminal
  a_number : ℕ → Terminal

abbrev pub Val : Terminal → Type 0
Val (the k) = Unit
Val a_name = Name
Val (a_number b) = Upto b

abbrev pub token : (x : Terminal) → Val x → Token
token (the k) v = mark k
token a_name v = name v
token (a_number b) v = number v.value

abbrev pub Hit : Terminal → Token → Type 0
Hit x t = (v : Val x) × (token x v ≡ t)

abbrev pub same : (k j : ℕ) (x : Bool) → eqb k j ≡ x → Option (Hit (the k) (mark j))
same k j true e = some (tt, ap mark (eqb-true k j e))
same k j false e = none

abbrev pub fitted : (b n : ℕ) (x : Bool) → leb n b ≡ x → Option (Hit (a_number b) (number n))
fitted b n true e = some (record { value = n; fits = subst (λ (x : Bool). T x) (sym e) tt }, refl)
fitted b n false e = none

abbrev pub accepts : (x : Terminal) (t : Token) → Option (Hit x t)
accepts (the k) (name n) = none
accepts (the k) (number n) = none
accepts (the k) (mark j) = same k j (eqb k j) refl
accepts (the k) bad = none
accepts a_name (name n) = some (n, refl)
accepts a_name (number n) = none
accepts a_name (mark j) = none
accepts a_name bad = none
accepts (a_number b) (name n) = none
accepts (a_number b) (number n) = fitted b n (leb n b) refl
accepts (a_number b) (mark j) = none
accepts (a_number b) bad = none

-- WHAT CAN BE STILL TO COME, what is read there, and how that is written.
pub data Closer : Type 0 where
  round comma semi : Closer

abbrev pub closer : Closer → ℕ
closer round = K.RP
closer comma = K.COMMA
closer semi = K.SEMI

pub data Symbol : Type 0 where
  one : Terminal → Symbol
  factor_s minus_s : ℕ → Symbol
  more : ℕ → Closer → Symbol  -- the rest of a term, that of its expression, and what closes it
  signed_s relation_s item_s : Symbol
  claim_s items_s gives_s given_s actions_s : Symbol  -- up to the bracket or brace that closes them
  try_s : Symbol  -- the rest of the branches of a try, and of the actions behind it
  few_s : ℕ → Symbol
  lines_s body_s text_s : Symbol

abbrev pub Of : Symbol → Type 0
Of (one x) = Val x
Of (factor_s d) = Ex (factor d)
Of (minus_s d) = Ex (minus d)
Of (more d c) = Ex (factors d) × Ex (terms d)
Of signed_s = Signed
Of relation_s = Relation
Of item_s = Item
Of claim_s = Claim
Of items_s = List Item
Of gives_s = Gives
Of given_s = List Give
Of actions_s = Act actions
Of try_s = Act branches × Act actions
Of (few_s k) = Few k
Of lines_s = Locals × Act actions
Of body_s = Body
Of text_s = Text

abbrev pub say : (s : Symbol) → Of s → List Token → List Token
say (one x) v r = token x v ∷ r
say (factor_s d) v r = spell v r
say (minus_s d) v r = spell v r
say (more d c) v r = spell v.0 (spell v.1 (mark (closer c) ∷ r))
say signed_s v r = spell_signed v r
say relation_s v r = mark (relation v) ∷ r
say item_s v r = spell_item v r
say claim_s v r = spell_claim v r
say items_s v r = spell_items v (mark K.RS ∷ r)
say gives_s v r = spell_gives v (mark K.RP ∷ r)
say given_s v r = spell_given v (mark K.RS ∷ r)
say actions_s v r = spell_act v (mark K.RB ∷ r)
say try_s v r = spell_act v.0 (spell_act v.1 (mark K.RB ∷ r))
say (few_s k) v r = spell_few v (mark K.SEMI ∷ r)
say lines_s v r = spell_locals v.0 (spell_act v.1 (mark K.RB ∷ r))
say body_s v r = spell_body v r
say text_s v r = spell_text v r

-- THE RULES: a row has what it begins with, what comes then, what they make together, and that it is written so.
pub record Row (s : Symbol) : Type 0 where
  pub first : Terminal
  pub next : List Symbol
  pub make : Val first → Values Of next → Of s
  pub law : (v : Val first) (vs : Values Of next) (r : List Token) → say s (make v vs) r ≡ token first v ∷ says Of say next vs r

abbrev pub on : {s : Symbol} (x : Terminal) (ns : List Symbol) (make : Val x → Values Of ns → Of s) →
    ((v : Val x) (vs : Values Of ns) (r : List Token) → say s (make v vs) r ≡ token x v ∷ says Of say ns vs r) → Row s
on x ns make law = record { first = x; next = ns; make = make; law = law }

abbrev pub rule : {s : Symbol} (w : Row s) (t : Token) → Hit w.first t → Rule Of say s t
rule w t h =
    record {
      next = w.next;
      make = w.make h.0;
      law = λ vs r. w.law h.0 vs r ∙ ap (λ (x : Token). x ∷ says Of say w.next vs r) h.1;
    }

abbrev pub taken : {s : Symbol} (w : Row s) (t : Token) → Option (Hit w.first t) → Option (Rule Of say s t)
    → Option (Rule Of say s t)
taken w t none o = o
taken w t (some h) o = some (rule w t h)

abbrev pub choose : {s : Symbol} → List (Row s) → (t : Token) → Option (Rule Of say s t)
choose [] t = none
choose (w ∷ ws) t = taken w t (accepts w.first t) (choose ws t)

abbrev pub sign : ℕ → Symbol
sign k = one (the k)

abbrev pub name_s : Symbol
name_s = one a_name

abbrev pub upto : ℕ → Symbol
upto b = one (a_number b)

-- A factor and what follows it are an expression.
abbrev pub whole : {d : ℕ} → Ex (factor d) → Ex (factors d) × Ex (terms d) → Ex (expression d)
whole f m = sum (product f m.0) m.1

-- ( x , n ), an expression up to what closes it, and two of them in brackets.
abbrev pub pair_s : ℕ → List Symbol → List Symbol
pair_s b ns = sign K.LP ∷ name_s ∷ sign K.COMMA ∷ upto b ∷ sign K.RP ∷ ns

abbrev pub whole_s : ℕ → Closer → List Symbol → List Symbol
whole_s d c ns = factor_s d ∷ more d c ∷ ns

abbrev pub two_s : ℕ → List Symbol
two_s d = sign K.LP ∷ whole_s d comma (whole_s d round [])

abbrev pub deep_f : (d : ℕ) → List (Row (factor_s d))
deep_f zero = []
deep_f (suc d) =
    on (the K.LP) (whole_s d round []) (λ v vs. plain (bracket (whole vs.0 vs.1.0))) (λ v vs r. refl)
    ∷ on (the K.LESSER) (two_s d)
    (λ v vs. plain (lesser (whole vs.1.0 vs.1.1.0) (whole vs.1.1.1.0 vs.1.1.1.1.0))) (λ v vs r. refl)
    ∷ on (the K.GREATER) (two_s d)
    (λ v vs. plain (greater (whole vs.1.0 vs.1.1.0) (whole vs.1.1.1.0 vs.1.1.1.1.0))) (λ v vs r. refl)
    ∷ []

abbrev pub deep_m : (d : ℕ) → List (Row (minus_s d))
deep_m zero = []
deep_m (suc d) =
    on (the K.LP) (whole_s d round []) (λ v vs. negated (bracket (whole vs.0 vs.1.0))) (λ v vs r. refl)
    ∷ on (the K.LESSER) (two_s d)
    (λ v vs. negated (lesser (whole vs.1.0 vs.1.1.0) (whole vs.1.1.1.0 vs.1.1.1.1.0))) (λ v vs r. refl)
    ∷ on (the K.GREATER) (two_s d)
    (λ v vs. negated (greater (whole vs.1.0 vs.1.1.0) (whole vs.1.1.1.0 vs.1.1.1.1.0))) (λ v vs r. refl)
    ∷ []

-- Actions up to the brace that closes them, where the reading is what `wrap` makes of them.
module _ (s : Symbol) (wrap : Act actions → Of s)
    (law : (b : Act actions) (r : List Token) → say s (wrap b) r ≡ spell_act b (mark K.RB ∷ r)) where
  abbrev pub action_rows : List (Row s)
  action_rows =
      on (the K.RB) [] (λ v vs. wrap no_actions) (λ v vs r. law _ r)
      ∷ on (the K.HOLD) (sign K.LP ∷ whole_s No.brackets round (sign K.SEMI ∷ actions_s ∷ []))
      (λ v vs. wrap (follow (hold (whole vs.1.0 vs.1.1.0)) vs.1.1.1.1.0)) (λ v vs r. law _ r)
      ∷ on (the K.PRIORITY) (sign K.LP ∷ whole_s No.brackets round (sign K.SEMI ∷ actions_s ∷ []))
      (λ v vs. wrap (follow (priority (whole vs.1.0 vs.1.1.0)) vs.1.1.1.1.0)) (λ v vs r. law _ r)
      ∷ on (the K.TRACE) (sign K.LP ∷ whole_s No.brackets round (sign K.SEMI ∷ actions_s ∷ []))
      (λ v vs. wrap (follow (trace (whole vs.1.0 vs.1.1.0)) vs.1.1.1.1.0)) (λ v vs r. law _ r)
      ∷ on a_name (sign K.BECOMES ∷ whole_s No.brackets semi (actions_s ∷ []))
      (λ v vs. wrap (follow (set v (whole vs.1.0 vs.1.1.0)) vs.1.1.1.0)) (λ v vs r. law _ r)
      ∷ on (the K.DO) (upto No.top_count ∷ sign K.LB ∷ actions_s ∷ actions_s ∷ [])
      (λ v vs. wrap (follow (repeat vs.0 vs.1.1.0) vs.1.1.1.0)) (λ v vs r. law _ r)
      ∷ on (the K.PUTR) (pair_s No.top_number (sign K.SEMI ∷ actions_s ∷ []))
      (λ v vs. wrap (follow (put_r vs.1.0 vs.1.1.1.0) vs.1.1.1.1.1.1.0)) (λ v vs r. law _ r)
      ∷ on (the K.PUTB) (pair_s No.top_number (sign K.SEMI ∷ actions_s ∷ []))
      (λ v vs. wrap (follow (put_b vs.1.0 vs.1.1.1.0) vs.1.1.1.1.1.1.0)) (λ v vs r. law _ r)
      ∷ on (the K.PUTS) (pair_s No.top_count (sign K.SEMI ∷ actions_s ∷ []))
      (λ v vs. wrap (follow (put_s vs.1.0 vs.1.1.1.0) vs.1.1.1.1.1.1.0)) (λ v vs r. law _ r)
      ∷ on (the K.BECOME) (sign K.LP ∷ name_s ∷ sign K.RP ∷ sign K.SEMI ∷ actions_s ∷ [])
      (λ v vs. wrap (follow (become vs.1.0) vs.1.1.1.1.0)) (λ v vs r. law _ r)
      ∷ on (the K.REQ) (sign K.LS ∷ claim_s ∷ sign K.SEMI ∷ actions_s ∷ [])
      (λ v vs. wrap (follow (req vs.1.0) vs.1.1.1.0)) (λ v vs r. law _ r)
      ∷ on (the K.TRY) (sign K.LS ∷ claim_s ∷ sign K.THEN ∷ sign K.LB ∷ actions_s ∷ try_s ∷ [])
      (λ v vs. wrap (follow (try vs.1.0 vs.1.1.1.1.0 vs.1.1.1.1.1.0.0) vs.1.1.1.1.1.0.1))
      (λ v vs r. law _ r)
      ∷ on (the K.WHILE) (sign K.LS ∷ claim_s ∷ sign K.LB ∷ actions_s ∷ actions_s ∷ [])
      (λ v vs. wrap (follow (while vs.1.0 vs.1.1.1.0) vs.1.1.1.1.0)) (λ v vs r. law _ r)
      ∷ on (the K.START) (sign K.LP ∷ name_s ∷ sign K.COMMA ∷ upto No.top_number ∷ gives_s ∷ sign K.SEMI ∷ actions_s ∷ [])
      (λ v vs. wrap (follow (start vs.1.0 vs.1.1.1.0 vs.1.1.1.1.0) vs.1.1.1.1.1.1.0))
      (λ v vs r. law _ r)
      ∷ on (the K.CLOSE) (sign K.SEMI ∷ actions_s ∷ []) (λ v vs. wrap (follow close vs.1.0)) (λ v vs r. law _ r)
      ∷ []

abbrev pub try_row : Row try_s
try_row =
    on (the K.ETRY) (sign K.LS ∷ claim_s ∷ sign K.THEN ∷ sign K.LB ∷ actions_s ∷ try_s ∷ [])
    (λ v vs. (etry vs.1.0 vs.1.1.1.1.0 vs.1.1.1.1.1.0.0, vs.1.1.1.1.1.0.1)) (λ v vs r. refl)

abbrev pub local_row : Row lines_s
local_row =
    on (the K.LOCAL) (name_s ∷ few_s No.more_locals ∷ actions_s ∷ []) (λ v vs. (locals vs.0 vs.1.0, vs.1.1.0))
    (λ v vs r. refl)

abbrev pub rows : (s : Symbol) → List (Row s)
rows (one x) = on x [] (λ v vs. v) (λ v vs r. refl) ∷ []
rows (factor_s d) =
    on (a_number No.top_number) [] (λ v vs. literal v) (λ v vs r. refl)
    ∷ on (the K.MINUS) (minus_s d ∷ []) (λ v vs. negative vs.0) (λ v vs r. refl)
    ∷ on a_name [] (λ v vs. plain (value v)) (λ v vs r. refl)
    ∷ on (the K.CLOCK) [] (λ v vs. plain clock) (λ v vs r. refl)
    ∷ deep_f d
rows (minus_s d) =
    on (a_number No.top_magnitude) [] (λ v vs. magnitude v) (λ v vs r. refl)
    ∷ on (the K.MINUS) (minus_s d ∷ []) (λ v vs. again vs.0) (λ v vs r. refl)
    ∷ on a_name [] (λ v vs. negated (value v)) (λ v vs r. refl)
    ∷ on (the K.CLOCK) [] (λ v vs. negated clock) (λ v vs r. refl)
    ∷ deep_m d
rows (more d c) =
    on (the K.STAR) (whole_s d c []) (λ v vs. (times vs.0 vs.1.0.0, vs.1.0.1)) (λ v vs r. refl)
    ∷ on (the K.PLUS) (whole_s d c []) (λ v vs. (no_factors, plus (product vs.0 vs.1.0.0) vs.1.0.1)) (λ v vs r. refl)
    ∷ on (the K.MINUS) (whole_s d c []) (λ v vs. (no_factors, less (product vs.0 vs.1.0.0) vs.1.0.1)) (λ v vs r. refl)
    ∷ on (the (closer c)) [] (λ v vs. (no_factors, no_terms)) (λ v vs r. refl)
    ∷ []
rows signed_s =
    on (a_number No.top_number) [] (λ v vs. upward v) (λ v vs r. refl)
    ∷ on (the K.MINUS) (upto No.top_magnitude ∷ []) (λ v vs. downward vs.0) (λ v vs r. refl)
    ∷ []
rows relation_s =
    on (the K.LT) [] (λ v vs. below) (λ v vs r. refl)
    ∷ on (the K.LE) [] (λ v vs. at_most) (λ v vs r. refl)
    ∷ on (the K.EQ) [] (λ v vs. equals) (λ v vs r. refl)
    ∷ on (the K.NE) [] (λ v vs. differs) (λ v vs r. refl)
    ∷ on (the K.GE) [] (λ v vs. at_least) (λ v vs r. refl)
    ∷ on (the K.GT) [] (λ v vs. above) (λ v vs r. refl)
    ∷ []
rows item_s =
    on (the K.GETR) (pair_s No.top_number []) (λ v vs. get_r vs.1.0 vs.1.1.1.0) (λ v vs r. refl)
    ∷ on (the K.GETB) (pair_s No.top_number []) (λ v vs. get_b vs.1.0 vs.1.1.1.0) (λ v vs r. refl)
    ∷ on (the K.GETS) (pair_s No.top_number []) (λ v vs. get_s vs.1.0 vs.1.1.1.0) (λ v vs r. refl)
    ∷ on a_name (relation_s ∷ signed_s ∷ []) (λ v vs. condition v vs.0 vs.1.0) (λ v vs r. refl)
    ∷ []
rows claim_s =
    on (the K.RS) [] (λ v vs. nothing) (λ v vs r. refl)
    ∷ on (the K.GETR) (pair_s No.top_number (items_s ∷ []))
    (λ v vs. claim (get_r vs.1.0 vs.1.1.1.0) vs.1.1.1.1.1.0) (λ v vs r. refl)
    ∷ on (the K.GETB) (pair_s No.top_number (items_s ∷ []))
    (λ v vs. claim (get_b vs.1.0 vs.1.1.1.0) vs.1.1.1.1.1.0) (λ v vs r. refl)
    ∷ on (the K.GETS) (pair_s No.top_number (items_s ∷ []))
    (λ v vs. claim (get_s vs.1.0 vs.1.1.1.0) vs.1.1.1.1.1.0) (λ v vs r. refl)
    ∷ on a_name (relation_s ∷ signed_s ∷ items_s ∷ []) (λ v vs. claim (condition v vs.0 vs.1.0) vs.1.1.0) (λ v vs r. refl)
    ∷ []
rows items_s =
    on (the K.RS) [] (λ v vs. []) (λ v vs r. refl)
    ∷ on (the K.COMMA) (item_s ∷ items_s ∷ []) (λ v vs. vs.0 ∷ vs.1.0) (λ v vs r. refl)
    ∷ []
rows gives_s =
    on (the K.RP) [] (λ v vs. no_gives) (λ v vs r. refl)
    ∷ on (the K.COMMA) (sign K.LS ∷ pair_s No.top_number (given_s ∷ sign K.RP ∷ []))
    (λ v vs. gives vs.1.1.0 vs.1.1.1.1.0 vs.1.1.1.1.1.1.0) (λ v vs r. refl)
    ∷ []
rows given_s =
    on (the K.RS) [] (λ v vs. []) (λ v vs r. refl)
    ∷ on (the K.COMMA) (pair_s No.top_number (given_s ∷ []))
    (λ v vs. give vs.1.0 vs.1.1.1.0 ∷ vs.1.1.1.1.1.0) (λ v vs r. refl)
    ∷ []
rows actions_s = action_rows actions_s (λ b. b) (λ b r. refl)
rows try_s = action_rows try_s (λ b. (no_branches, b)) (λ b r. refl) ++ (try_row ∷ [])
rows (few_s zero) = on (the K.SEMI) [] (λ v vs. no_names) (λ v vs r. refl) ∷ []
rows (few_s (suc k)) =
    on (the K.SEMI) [] (λ v vs. no_names) (λ v vs r. refl)
    ∷ on (the K.COMMA) (name_s ∷ few_s k ∷ []) (λ v vs. also vs.0 vs.1.0) (λ v vs r. refl)
    ∷ []
rows lines_s = action_rows lines_s (λ b. (no_locals, b)) (λ b r. refl) ++ (local_row ∷ [])
rows body_s =
    on (the K.SEMI) [] (λ v vs. announced) (λ v vs r. refl)
    ∷ on (the K.LB) (lines_s ∷ []) (λ v vs. body vs.0.0 vs.0.1) (λ v vs r. refl)
    ∷ []
rows text_s =
    on (the K.END) [] (λ v vs. []) (λ v vs r. refl)
    ∷ on (the K.RES) (pair_s No.top_number (sign K.SEMI ∷ text_s ∷ []))
    (λ v vs. res vs.1.0 vs.1.1.1.0 ∷ vs.1.1.1.1.1.1.0) (λ v vs r. refl)
    ∷ on (the K.BIN) (pair_s No.top_number (sign K.SEMI ∷ text_s ∷ []))
    (λ v vs. bin vs.1.0 vs.1.1.1.0 ∷ vs.1.1.1.1.1.1.0) (λ v vs r. refl)
    ∷ on (the K.SYNC) (sign K.LP ∷ name_s ∷ sign K.RP ∷ sign K.SEMI ∷ text_s ∷ [])
    (λ v vs. sync vs.1.0 ∷ vs.1.1.1.1.0) (λ v vs r. refl)
    ∷ on (the K.VAR) (sign K.LP ∷ name_s ∷ sign K.COMMA ∷ signed_s ∷ sign K.RP ∷ sign K.SEMI ∷ text_s ∷ [])
    (λ v vs. var vs.1.0 vs.1.1.1.0 ∷ vs.1.1.1.1.1.1.0) (λ v vs r. refl)
    ∷ on (the K.SAMPLER)
    (sign K.LP ∷ name_s ∷ sign K.COMMA ∷ signed_s ∷ sign K.COMMA ∷ signed_s ∷ sign K.COMMA ∷ upto No.top_number ∷ sign K.RP ∷ sign
    K.SEMI
    ∷ text_s ∷ [])
    (λ v vs. sampler vs.1.0 vs.1.1.1.0 vs.1.1.1.1.1.0 vs.1.1.1.1.1.1.1.0
    ∷ vs.1.1.1.1.1.1.1.1.1.1.0)
    (λ v vs r. refl)
    ∷ on (the K.CLASS) (name_s ∷ body_s ∷ text_s ∷ []) (λ v vs. class vs.0 vs.1.0 ∷ vs.1.1.0) (λ v vs r. refl)
    ∷ on (the K.ENTITY) (pair_s No.top_number (sign K.SEMI ∷ text_s ∷ []))
    (λ v vs. entity vs.1.0 vs.1.1.1.0 ∷ vs.1.1.1.1.1.1.0) (λ v vs r. refl)
    ∷ []

abbrev pub step : (s : Symbol) (t : Token) → Option (Rule Of say s t)
step s t = choose (rows s) t

-- WHAT MAY STILL COME, in the fewest words: braces are closed, and of a class line with no more than its name the body comes.
abbrev pub none_of : (b : ℕ) → Upto b
none_of b = record { value = 0; fits = subst (λ (x : Bool). T x) (sym (leb-zero b)) tt }

abbrev pub some_of : (s : Symbol) → Of s
some_of (one (the k)) = tt
some_of (one a_name) = ascii "a"
some_of (one (a_number b)) = none_of b
some_of (factor_s d) = plain clock
some_of (minus_s d) = negated clock
some_of (more d c) = (no_factors, no_terms)
some_of signed_s = upward (none_of No.top_number)
some_of relation_s = below
some_of item_s = get_r (ascii "a") (none_of No.top_number)
some_of claim_s = nothing
some_of items_s = []
some_of gives_s = no_gives
some_of given_s = []
some_of actions_s = no_actions
some_of try_s = (no_branches, no_actions)
some_of (few_s k) = no_names
some_of lines_s = (no_locals, no_actions)
some_of body_s = body no_locals no_actions
some_of text_s = []

-- The tree that is read; or how many tokens begin a text, and a tree that begins with those.
unfoldable pub reading : List Token → Result (Values Of (text_s ∷ []))
unfolding read
reading ts = read Of say some_of step ts (text_s ∷ [])
