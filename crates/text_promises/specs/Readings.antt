-- The reading of a text reads exactly what the grammar spells, and refuses at the first token that begins no text.
-- Assumes nothing.
use Rattle.std.specs.Prelude.{ℕ, zero, suc, ◌<◌, ◌≡◌, refl, List, [], ◌∷◌, ◌++◌, Bool, true, false, T, leb, eqb, length, take}
use Rattle.std.proofs.Common.{sym, ◌∙◌, ap, subst}
use Rattle.std.proofs.Math.Option.{Option, none}
use Rattle.std.proofs.Math.Dec.{T_prop}
use Rattle.std.proofs.lemmas.Bool.{eqb-false}
use Rattle.semantics.specs.Model.{Relation, below, at_most, equals, differs, at_least, above}
use Rattle.text_semantics.specs.Numbers as No
use Rattle.text_semantics.specs.Token as K
use Rattle.text_semantics.specs.Token.{Token, name, number, mark}
use Rattle.text_semantics.specs.Grammar.{Upto, Ex, Signed, Item, Claim, Give, Gives, Act, Few, Locals, Body, Text, spell_text}
use Rattle.text_semantics.specs.Grammar.{factor, factors, terms, minus, actions, branches, sum, no_terms, plus, less, product}
use Rattle.text_semantics.specs.Grammar.{no_factors, times, literal, plain, negative, magnitude, negated, again, value, clock}
use Rattle.text_semantics.specs.Grammar.{bracket, lesser, greater, upward, downward, get_r, get_b, get_s, condition, nothing}
use Rattle.text_semantics.specs.Grammar.{claim, give, no_gives, gives, hold, priority, trace, set, repeat, put_r, put_b, put_s}
use Rattle.text_semantics.specs.Grammar.{become, req, try, while, start, close, no_branches, etry, no_actions, follow, no_names}
use Rattle.text_semantics.specs.Grammar.{also, no_locals, locals, announced, body, res, bin, sync, var, sampler, class, entity}
use Rattle.text_semantics.specs.Grammar.{spell_act}
use Rattle.text_semantics.specs.Table.{right, wrong, Values, Rule}
use Rattle.text_semantics.specs.Reading.{Terminal, the, a_name, a_number, Val, same, fitted, Closer, round, comma, semi, Symbol}
use Rattle.text_semantics.specs.Reading.{one, factor_s, minus_s, more, signed_s, relation_s, item_s, claim_s, items_s, gives_s, given_s}
use Rattle.text_semantics.specs.Reading.{actions_s, try_s, few_s, lines_s, body_s, text_s, Of, say, Row, on, taken, choose, sign}
use Rattle.text_semantics.specs.Reading.{action_rows, try_row, local_row, step, some_of, reading}
use Rattle.text_promises.specs.Tables.{At, Begins, sound, lives, stays, whole, wrong-right}

-- EVERY TREE BEGINS with a token that finds its rule.
abbrev Opens : (s : Symbol) → Of s → Type 0
Opens s v = Begins Of say step s v

at_same : (k : ℕ) (x : Bool) (e : eqb k k ≡ x)
    → At Of say (sign k) (mark k) tt (taken (on (the k) [] (λ v vs. v) (λ v vs r. refl)) (mark k) (same k k x e) none)
at_same k true e = (tt, refl)
at_same k false e = absurd (eqb-false k k e refl)

at_fitted : {s : Symbol} (b : ℕ) (make : Upto b → Of s)
    (law : (v : Upto b) (vs : Values Of []) (r : List Token) → say s (make v) r ≡ number v.value ∷ r)
    (v : Upto b) (o : Option (Rule Of say s (number v.value))) (x : Bool) (e : leb v.value b ≡ x)
    → At Of say s (number v.value) (make v)
    (taken (on (a_number b) [] (λ n vs. make n) law) (number v.value) (fitted b v.value x e) o)
at_fitted b make law v o true e =
    (tt, ap (λ (f : T (leb v.value b)). make (record { value = v.value; fits = f })) (T_prop (leb v.value b) _ v.fits))
at_fitted b make law v o false e = absurd (subst (λ (x : Bool). T x) e v.fits)

opens_one : (x : Terminal) (v : Val x) → Opens (one x) v
opens_one (the k) v = (mark k, at_same k (eqb k k) refl)
opens_one a_name v = (name v, (tt, refl))
opens_one (a_number b) v =
    (number v.value, at_fitted {s = one (a_number b)} b (λ v. v) (λ v vs r. refl) v none (leb v.value b) refl)

opens_factor : {d : ℕ} (v : Ex (factor d)) → Opens (factor_s d) v
opens_factor (literal n) = (
  number n.value,
  at_fitted {s = factor_s _} No.top_number (λ v. literal v) (λ v vs r. refl) n _ (leb n.value No.top_number) refl,
)
opens_factor (negative m) = (mark K.MINUS, ((m, tt), refl))
opens_factor (plain (value x)) = (name x, (tt, refl))
opens_factor (plain clock) = (mark K.CLOCK, (tt, refl))
opens_factor (plain (bracket (sum (product f fs) ts))) = (mark K.LP, ((f, ((fs, ts), tt)), refl))
opens_factor (plain (lesser (sum (product f fs) ts) (sum (product g gs) us))) =
    (mark K.LESSER, ((tt, (f, ((fs, ts), (g, ((gs, us), tt))))), refl))
opens_factor (plain (greater (sum (product f fs) ts) (sum (product g gs) us))) =
    (mark K.GREATER, ((tt, (f, ((fs, ts), (g, ((gs, us), tt))))), refl))

opens_minus : {d : ℕ} (v : Ex (minus d)) → Opens (minus_s d) v
opens_minus (magnitude n) = (
  number n.value,
  at_fitted {s = minus_s _} No.top_magnitude (λ v. magnitude v) (λ v vs r. refl) n _ (leb n.value No.top_magnitude) refl,
)
opens_minus (again m) = (mark K.MINUS, ((m, tt), refl))
opens_minus (negated (value x)) = (name x, (tt, refl))
opens_minus (negated clock) = (mark K.CLOCK, (tt, refl))
opens_minus (negated (bracket (sum (product f fs) ts))) = (mark K.LP, ((f, ((fs, ts), tt)), refl))
opens_minus (negated (lesser (sum (product f fs) ts) (sum (product g gs) us))) =
    (mark K.LESSER, ((tt, (f, ((fs, ts), (g, ((gs, us), tt))))), refl))
opens_minus (negated (greater (sum (product f fs) ts) (sum (product g gs) us))) =
    (mark K.GREATER, ((tt, (f, ((fs, ts), (g, ((gs, us), tt))))), refl))

opens_closer : {d : ℕ} (c : Closer) → Opens (more d c) (no_factors, no_terms)
opens_closer round = (mark K.RP, (tt, refl))
opens_closer comma = (mark K.COMMA, (tt, refl))
opens_closer semi = (mark K.SEMI, (tt, refl))

opens_more : {d : ℕ} (c : Closer) (fs : Ex (factors d)) (ts : Ex (terms d)) → Opens (more d c) (fs, ts)
opens_more c (times f fs) ts = (mark K.STAR, ((f, ((fs, ts), tt)), refl))
opens_more c no_factors (plus (product f fs) ts) = (mark K.PLUS, ((f, ((fs, ts), tt)), refl))
opens_more c no_factors (less (product f fs) ts) = (mark K.MINUS, ((f, ((fs, ts), tt)), refl))
opens_more c no_factors no_terms = opens_closer c

module _ (s : Symbol) (wrap : Act actions → Of s)
    (law : (b : Act actions) (r : List Token) → say s (wrap b) r ≡ spell_act b (mark K.RB ∷ r)) (ws : List (Row s)) where
  opens_actions : (b : Act actions) → (t : Token) × At Of say s t (wrap b) (choose (action_rows s wrap law ++ ws) t)
  opens_actions no_actions = (mark K.RB, (tt, refl))
  opens_actions (follow (hold (sum (product f fs) ts)) b) = (mark K.HOLD, ((tt, (f, ((fs, ts), (tt, (b, tt))))), refl))
  opens_actions (follow (priority (sum (product f fs) ts)) b) = (mark K.PRIORITY, ((tt, (f, ((fs, ts), (tt, (b, tt))))), refl))
  opens_actions (follow (trace (sum (product f fs) ts)) b) = (mark K.TRACE, ((tt, (f, ((fs, ts), (tt, (b, tt))))), refl))
  opens_actions (follow (set x (sum (product f fs) ts)) b) = (name x, ((tt, (f, ((fs, ts), (b, tt)))), refl))
  opens_actions (follow (repeat n c) b) = (mark K.DO, ((n, (tt, (c, (b, tt)))), refl))
  opens_actions (follow (put_r x n) b) = (mark K.PUTR, ((tt, (x, (tt, (n, (tt, (tt, (b, tt))))))), refl))
  opens_actions (follow (put_b x n) b) = (mark K.PUTB, ((tt, (x, (tt, (n, (tt, (tt, (b, tt))))))), refl))
  opens_actions (follow (put_s x n) b) = (mark K.PUTS, ((tt, (x, (tt, (n, (tt, (tt, (b, tt))))))), refl))
  opens_actions (follow (become x) b) = (mark K.BECOME, ((tt, (x, (tt, (tt, (b, tt))))), refl))
  opens_actions (follow (req c) b) = (mark K.REQ, ((tt, (c, (tt, (b, tt)))), refl))
  opens_actions (follow (try c x bs) b) = (mark K.TRY, ((tt, (c, (tt, (tt, (x, ((bs, b), tt)))))), refl))
  opens_actions (follow (while c x) b) = (mark K.WHILE, ((tt, (c, (tt, (x, (b, tt))))), refl))
  opens_actions (follow (start x n g) b) = (mark K.START, ((tt, (x, (tt, (n, (g, (tt, (b, tt))))))), refl))
  opens_actions (follow close b) = (mark K.CLOSE, ((tt, (b, tt)), refl))

opens_try : (bs : Act branches) (b : Act actions) → Opens try_s (bs, b)
opens_try no_branches b = opens_actions try_s (λ b. (no_branches, b)) (λ b r. refl) (try_row ∷ []) b
opens_try (etry c x bs) b = (mark K.ETRY, ((tt, (c, (tt, (tt, (x, ((bs, b), tt)))))), refl))

opens_lines : (l : Locals) (b : Act actions) → Opens lines_s (l, b)
opens_lines no_locals b = opens_actions lines_s (λ b. (no_locals, b)) (λ b r. refl) (local_row ∷ []) b
opens_lines (locals x xs) b = (mark K.LOCAL, ((x, (xs, (b, tt))), refl))

opens_few : (k : ℕ) (v : Few k) → Opens (few_s k) v
opens_few zero no_names = (mark K.SEMI, (tt, refl))
opens_few (suc k) no_names = (mark K.SEMI, (tt, refl))
opens_few (suc k) (also x xs) = (mark K.COMMA, ((x, (xs, tt)), refl))

opens_signed : (v : Signed) → Opens signed_s v
opens_signed (upward n) = (
  number n.value,
  at_fitted {s = signed_s} No.top_number (λ v. upward v) (λ v vs r. refl) n _ (leb n.value No.top_number) refl,
)
opens_signed (downward n) = (mark K.MINUS, ((n, tt), refl))

opens_relation : (v : Relation) → Opens relation_s v
opens_relation below = (mark K.LT, (tt, refl))
opens_relation at_most = (mark K.LE, (tt, refl))
opens_relation equals = (mark K.EQ, (tt, refl))
opens_relation differs = (mark K.NE, (tt, refl))
opens_relation at_least = (mark K.GE, (tt, refl))
opens_relation above = (mark K.GT, (tt, refl))

opens_item : (v : Item) → Opens item_s v
opens_item (get_r x n) = (mark K.GETR, ((tt, (x, (tt, (n, (tt, tt))))), refl))
opens_item (get_b x n) = (mark K.GETB, ((tt, (x, (tt, (n, (tt, tt))))), refl))
opens_item (get_s x n) = (mark K.GETS, ((tt, (x, (tt, (n, (tt, tt))))), refl))
opens_item (condition x k n) = (name x, ((k, (n, tt)), refl))

opens_claim : (v : Claim) → Opens claim_s v
opens_claim nothing = (mark K.RS, (tt, refl))
opens_claim (claim (get_r x n) is) = (mark K.GETR, ((tt, (x, (tt, (n, (tt, (is, tt)))))), refl))
opens_claim (claim (get_b x n) is) = (mark K.GETB, ((tt, (x, (tt, (n, (tt, (is, tt)))))), refl))
opens_claim (claim (get_s x n) is) = (mark K.GETS, ((tt, (x, (tt, (n, (tt, (is, tt)))))), refl))
opens_claim (claim (condition x k n) is) = (name x, ((k, (n, (is, tt))), refl))

opens_items : (v : List Item) → Opens items_s v
opens_items [] = (mark K.RS, (tt, refl))
opens_items (i ∷ is) = (mark K.COMMA, ((i, (is, tt)), refl))

opens_gives : (v : Gives) → Opens gives_s v
opens_gives no_gives = (mark K.RP, (tt, refl))
opens_gives (gives x n gs) = (mark K.COMMA, ((tt, (tt, (x, (tt, (n, (tt, (gs, (tt, tt)))))))), refl))

opens_given : (v : List Give) → Opens given_s v
opens_given [] = (mark K.RS, (tt, refl))
opens_given (give x n ∷ gs) = (mark K.COMMA, ((tt, (x, (tt, (n, (tt, (gs, tt)))))), refl))

opens_body : (v : Body) → Opens body_s v
opens_body announced = (mark K.SEMI, (tt, refl))
opens_body (body l b) = (mark K.LB, (((l, b), tt), refl))

opens_text : (v : Text) → Opens text_s v
opens_text [] = (mark K.END, (tt, refl))
opens_text (res x n ∷ ds) = (mark K.RES, ((tt, (x, (tt, (n, (tt, (tt, (ds, tt))))))), refl))
opens_text (bin x n ∷ ds) = (mark K.BIN, ((tt, (x, (tt, (n, (tt, (tt, (ds, tt))))))), refl))
opens_text (sync x ∷ ds) = (mark K.SYNC, ((tt, (x, (tt, (tt, (ds, tt))))), refl))
opens_text (var x n ∷ ds) = (mark K.VAR, ((tt, (x, (tt, (n, (tt, (tt, (ds, tt))))))), refl))
opens_text (sampler x a b n ∷ ds) =
    (mark K.SAMPLER, ((tt, (x, (tt, (a, (tt, (b, (tt, (n, (tt, (tt, (ds, tt))))))))))), refl))
opens_text (class x b ∷ ds) = (mark K.CLASS, ((x, (b, (ds, tt))), refl))
opens_text (entity x n ∷ ds) = (mark K.ENTITY, ((tt, (x, (tt, (n, (tt, (tt, (ds, tt))))))), refl))

opens : (s : Symbol) (v : Of s) → Opens s v
opens (one x) v = opens_one x v
opens (factor_s d) v = opens_factor v
opens (minus_s d) v = opens_minus v
opens (more d c) v = opens_more c v.0 v.1
opens signed_s v = opens_signed v
opens relation_s v = opens_relation v
opens item_s v = opens_item v
opens claim_s v = opens_claim v
opens items_s v = opens_items v
opens gives_s v = opens_gives v
opens given_s v = opens_given v
opens actions_s v = opens_actions actions_s (λ b. b) (λ b r. refl) [] v
opens try_s v = opens_try v.0 v.1
opens (few_s k) v = opens_few k v
opens lines_s v = opens_lines v.0 v.1
opens body_s v = opens_body v
opens text_s v = opens_text v

-- What is spelled is read.
pub reads_written : (t : Text) → reading (spell_text t []) ≡ right (t, tt)
unfolding reading
reads_written t = whole Of say some_of step opens (spell_text t []) (text_s ∷ []) (t, tt) refl

-- What is read is spelled so.
pub written_read : (ts : List Token) (t : Text) → reading ts ≡ right (t, tt) → spell_text t [] ≡ ts
unfolding reading
written_read ts t e = sound Of say some_of step ts (text_s ∷ []) (t, tt) e

-- Tokens have one reading at most.
pub one_reading : (t u : Text) → spell_text t [] ≡ spell_text u [] → t ≡ u
one_reading t u e =
    let v : Values Of (text_s ∷ []) = (t, tt) in
    let w : Values Of (text_s ∷ []) = (u, tt) in
    let a : right v ≡ right w = sym (reads_written t) ∙ ap reading e ∙ reads_written u in
    let b : v ≡ w = cc in
    ap (λ (x : Values Of (text_s ∷ [])). x.0) b

-- Where n tokens fit and one more doesn't, no tree's spelling begins with those and that one,
pub refused_at : (ts : List Token) (n : ℕ) (v : Values Of (text_s ∷ [])) → reading ts ≡ wrong n v → n < length ts
    → (t : Text) (ys : List Token) → spell_text t [] ≡ take (suc n) ts ++ ys → ⊥
unfolding reading
refused_at ts n v e l t ys f =
    let a : reading (take (suc n) ts ++ ys) ≡ wrong n v = stays Of say some_of step ts (text_s ∷ []) n v e l ys in
    let b : reading (take (suc n) ts ++ ys) ≡ right (t, tt) =
    subst (λ (x : List Token). reading x ≡ right (t, tt)) f (reads_written t) in
    wrong-right (sym a ∙ b)

-- and that of the tree in hand begins with those.
pub refused_behind : (ts : List Token) (n : ℕ) (v : Values Of (text_s ∷ [])) → reading ts ≡ wrong n v
    → (ys : List Token) × (spell_text v.0 [] ≡ take n ts ++ ys)
unfolding reading
refused_behind ts n v e = (lives Of say some_of step ts (text_s ∷ []) n v e).1
