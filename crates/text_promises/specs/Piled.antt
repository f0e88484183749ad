-- How many tokens fit, and the tree in hand: what an answer goes by tells which spellings begin with the tokens so far.
-- Assumes nothing.
use Rattle.std.specs.Prelude.{suc, ◌≤◌, ◌<◌, ◌≡◌, refl, List, [], ◌∷◌, ◌++◌, length, take, drop}
use Rattle.std.proofs.Common.{arith, sym, ◌∙◌, ap, append-nil, append_assoc, take-append-drop, take_all}
use Rattle.std.proofs.Math.Option.{none, some}
use Rattle.text_semantics.specs.Token as K
use Rattle.text_semantics.specs.Token.{Token, mark}
use Rattle.text_semantics.specs.Grammar.{Text, spell_text}
use Rattle.text_semantics.specs.Table.{Result, right, wrong, Values}
use Rattle.text_semantics.specs.Reading.{Symbol, text_s, Of, say, step, some_of, reading}
use Rattle.text_semantics.specs.Answer.{fitting, tree_in}
use Rattle.text_promises.specs.Tables.{AllFit, OneMisfits, piled, piled_completes, no_pile_misfits}
use Rattle.text_promises.specs.Readings.{written_read, refused_at, refused_behind}
use Rattle.text_promises.specs.Spellings.{end_last}

-- Where all tokens fit, the spelling of the tree in hand begins with them.
pub all_fit : (ts : List Token) → length ts ≤ fitting (length ts) (reading ts)
    → (ys : List Token) × (spell_text (tree_in (reading ts)) [] ≡ ts ++ ys)
all_fit ts l = go (reading ts) refl l
  where
    go : (r : Result (Values Of (text_s ∷ []))) → reading ts ≡ r → length ts ≤ fitting (length ts) r
        → (ys : List Token) × (spell_text (tree_in r) [] ≡ ts ++ ys)
    go (right v) e l = ([], written_read ts v.0 e ∙ sym (append-nil ts))
    go (wrong n v) e l =
        let a = refused_behind ts n v e in (a.0, a.1 ∙ ap (λ (x : List Token). x ++ a.0) (take_all n ts l))

-- Where one doesn't, no spelling begins with them.
pub one_misfits : (ts : List Token) → fitting (length ts) (reading ts) < length ts
    → (t : Text) (ys : List Token) → spell_text t [] ≡ ts ++ ys → ⊥
one_misfits ts l t ys f = go (reading ts) refl l
  where
    go : (r : Result (Values Of (text_s ∷ []))) → reading ts ≡ r → fitting (length ts) r < length ts → ⊥
    go (right v) e l = omega arith
    go (wrong n v) e l =
        refused_at ts n v e l t (drop (suc n) ts ++ ys)
        (f ∙ ap (λ (x : List Token). x ++ ys) (sym (take-append-drop (suc n) ts)) ∙ append_assoc (take (suc n) ts) _ ys)

-- Where all fit and the end is the last, the tree in hand is spelled by just these.
pub ended_fit : (ts us : List Token) → ts ≡ us ++ (mark K.END ∷ []) → length ts ≤ fitting (length ts) (reading ts)
    → spell_text (tree_in (reading ts)) [] ≡ ts
ended_fit ts us e l =
    let a = all_fit ts l in
    let f : spell_text (tree_in (reading ts)) [] ≡ us ++ mark K.END ∷ a.0 =
    a.1 ∙ ap (λ (x : List Token). x ++ a.0) e ∙ append_assoc us (mark K.END ∷ []) a.0 in
    a.1 ∙ ap (λ (x : List Token). ts ++ x) (end_last (tree_in (reading ts)) us a.0 f) ∙ append-nil ts

-- A reader with a pile knows as much: where there is a pile behind the tokens all fit, and where there is none one doesn't.
pub piled_fits : (ts : List Token) (zs : List Symbol) → piled Of say step ts (text_s ∷ []) ≡ some zs
    → length ts ≤ fitting (length ts) (reading ts)
unfolding reading
piled_fits ts zs e = go (reading ts) (piled_completes Of say step some_of ts (text_s ∷ []) zs e).all_fit
  where
    go : (r : Result (Values Of (text_s ∷ []))) → AllFit (length ts) r → length ts ≤ fitting (length ts) r
    go (right v) h = omega arith
    go (wrong n v) h = omega arith

pub unpiled_misfits : (ts : List Token) → piled Of say step ts (text_s ∷ []) ≡ none → fitting (length ts) (reading ts) < length ts
unfolding reading
unpiled_misfits ts e = go (reading ts) (no_pile_misfits Of say step some_of ts (text_s ∷ []) e)
  where
    go : (r : Result (Values Of (text_s ∷ []))) → OneMisfits (length ts) r → fitting (length ts) r < length ts
    go (right v) h = absurd h
    go (wrong n v) h = h
