-- How many tokens a declaration has, as the machine and the definitions count them; and what is known, with room for names.
-- Assumes nothing.
use Rattle.std.specs.Prelude.{ℕ, suc, ◌+◌, ◌<◌, ◌≡◌, refl, List, [], ◌∷◌, ◌++◌, Bool, true, false, length}
use Rattle.std.proofs.Common.{arith, sym, ◌∙◌, ap, append_assoc}
use Rattle.std.proofs.Math.Option.{Option, none, some}
use Rattle.std.proofs.lemmas.Bool.{lt-leb}
use Rattle.promises.specs.Laws.{not_some}
use Rattle.text_semantics.specs.Token as Tk
use Rattle.text_semantics.specs.Token.{Token, mark}
use Rattle.text_semantics.specs.Grammar as G
use Rattle.text_semantics.specs.Grammar.{Name, Declaration, Locals, Few, spell_few, spell_locals, spell_signed, spell_act, declare}
use Rattle.text_semantics.specs.Names.{Known, Event, asks, declares, announces, embodies, leaves, knows, after, trouble}
use Rattle.text_semantics.specs.Names.{trouble_in, Troubled, names, wanting, in_locals, in_act, in_declaration}
use Rattle.text_semantics.specs.Meaning.{to_body}
use Rattle.text_machine.specs.Machine.{most_names, keeps}
use Rattle.text_agrees.specs.Claims.{past_signed}
use Rattle.text_agrees.specs.Spans.{signed_span, act_span}
use Rattle.text_agrees.specs.Events.{Fewer, fewer_split}
use Rattle.text_agrees.specs.Declared.{remembers, remembered, past_few, past_locals, past_declaration}

-- TOKENS.
few_span : {k : ℕ} (xs : Few k) (n : ℕ) (ts : List Token) → past_few xs n + length ts ≡ n + length (spell_few xs ts)
few_span G.no_names n r = omega arith
few_span (G.also x xs) n r = let a = few_span xs (suc (suc n)) r in omega arith

locals_span : (l : Locals) (n : ℕ) (ts : List Token) → past_locals l n + length ts ≡ n + length (spell_locals l ts)
locals_span G.no_locals n r = omega arith
locals_span (G.locals x xs) n r = let a = few_span xs (suc (suc n)) (mark Tk.SEMI ∷ r) in omega arith

pub body_span : (l : Locals) (at : ℕ) → past_locals l (suc (suc (suc at))) ≡ at + to_body l
body_span l at = let a = locals_span l (suc (suc (suc at))) [] in omega arith

pub declaration_span : (d : Declaration) (at : ℕ) → past_declaration d at ≡ at + length (declare d [])
declaration_span (G.res x n) at = omega arith
declaration_span (G.bin x n) at = omega arith
declaration_span (G.sync x) at = omega arith
declaration_span (G.var x n) at =
    let a = signed_span n (suc (suc (suc (suc at)))) (mark Tk.RP ∷ mark Tk.SEMI ∷ []) in omega arith
declaration_span (G.sampler x a b n) at =
    let ts : List Token = mark Tk.COMMA ∷ Tk.number n.value ∷ mark Tk.RP ∷ mark Tk.SEMI ∷ [] in
    let p : ℕ = suc (suc (suc (suc at))) in
    let u = signed_span a p (mark Tk.COMMA ∷ spell_signed b ts) in
    let v = signed_span b (suc (past_signed a p)) ts in
    omega arith
declaration_span (G.class x G.announced) at = omega arith
declaration_span (G.class x (G.body l b)) at =
    let p : ℕ = suc (suc (suc at)) in
    let u = locals_span l p (spell_act b (mark Tk.RB ∷ [])) in
    let v = act_span b (past_locals l p) (mark Tk.RB ∷ []) in
    omega arith
declaration_span (G.entity x n) at = omega arith

-- NAMES. With room the machine remembers all that is known.
kept : (ks : List Known) (e : Event) → length ks < most_names → keeps ks e ≡ knows ks e
kept ks e h = rw (lt-leb most_names (length ks) h)

one_known : (ks : List Known) (e : Event) → length ks < most_names → remembers ks e ≡ knows ks e
unfolding remembers knows
one_known ks (asks ws x) h = refl
one_known ks (declares w x) h = kept ks (declares w x) h
one_known ks (announces x) h = kept ks (announces x) h
one_known ks (embodies x) h = kept ks (embodies x) h
one_known ks leaves h = refl

pub all_known : (ks : List Known) (es : List Event) → Fewer ks es → remembered ks es ≡ after ks es
unfolding remembered after
all_known ks [] h = refl
all_known ks (e ∷ es) h =
    ap (λ (zs : List Known). remembered zs es) (one_known ks e h.0) ∙ all_known (knows ks e) es h.1

pub in_body : (ks : List Known) (x : Name) (l : Locals) (b : G.Act G.actions) → Fewer ks (in_declaration (G.class x (G.body l b)))
    → remembered ks (embodies x ∷ in_locals l) ≡ after ks (embodies x ∷ in_locals l)
in_body ks x l b r =
    all_known ks (embodies x ∷ in_locals l)
    (fewer_split ks (embodies x ∷ in_locals l) (in_act b ++ (leaves ∷ []))
    (rw (append_assoc (in_locals l) (in_act b) (leaves ∷ [])) at r)).0

-- NO TROUBLE: with the first of some events, or with some of them, and none with the others.
pub calm_first : (ks : List Known) (e : Event) (es : List Event) → trouble_in ks (e ∷ es) ≡ none
    → (trouble ks e ≡ none) × (trouble_in (knows ks e) es ≡ none)
unfolding trouble_in
calm_first ks e es h = go (trouble ks e) (trouble_in (knows ks e) es) h
  where
    go : (o : Option ℕ) (q : Option Troubled)
        → ◌≡◌ {A = Option Troubled} (elim o [
          | some n ↦ some (record { number = n; before = 0 })
          | none ↦ elim q [ none ↦ none | some t ↦ some (record { number = t.number; before = names e + t.before }) ]
        ]) none
        → (o ≡ none) × (q ≡ none)
    go (some n) q h = not_some (sym h)
    go none none h = (refl, refl)
    go none (some t) h = not_some (sym h)

pub calm_split : (ks : List Known) (es fs : List Event) → trouble_in ks (es ++ fs) ≡ none
    → (trouble_in ks es ≡ none) × (trouble_in (after ks es) fs ≡ none)
unfolding trouble_in after
calm_split ks [] fs h = (refl, h)
calm_split ks (e ∷ es) fs h =
    let a = calm_first ks e (es ++ fs) h in
    let b = calm_split (knows ks e) es fs a.1 in
    (both (trouble ks e) (trouble_in (knows ks e) es) a.0 b.0, b.1)
  where
    both : (o : Option ℕ) (q : Option Troubled) → o ≡ none → q ≡ none
        → ◌≡◌ {A = Option Troubled} (elim o [
          | some n ↦ some (record { number = n; before = 0 })
          | none ↦ elim q [ none ↦ none | some t ↦ some (record { number = t.number; before = names e + t.before }) ]
        ]) none
    both (some n) q g h = not_some (sym g)
    both none none g h = refl
    both none (some t) g h = not_some (sym h)

pub wants_nothing : (n : ℕ) (b : Bool) → wanting n b ≡ none → b ≡ true
wants_nothing n true h = refl
wants_nothing n false h = not_some (sym h)
