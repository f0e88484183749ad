-- The number of a class: how many classes have been declared before it.
-- Assumes nothing.
use Rattle.std.specs.Prelude.{ℕ, ◌+◌, ◌≡◌, refl, Bool, length, if◌then◌else◌}
use Rattle.std.proofs.Common.{arith, ◌∙◌, ap}
use mathlib.Core.List.{List, [], ◌∷◌, ◌++◌, map}
use Rattle.std.proofs.Math.Bool.{true, false}
use Rattle.std.proofs.Math.Option.{none}
use Rattle.semantics.specs.Words.{any, keep}
use Rattle.semantics.specs.Kinds as K
use Rattle.semantics.specs.Record as R
use Rattle.promises.specs.Laws.{no_way, or-false, not-true}
use Rattle.text_semantics.specs.Numbers as No
use Rattle.text_semantics.specs.Grammar as G
use Rattle.text_semantics.specs.Grammar.{Name, Declaration, Text}
use Rattle.text_semantics.specs.Names.{Known, Event, asks, declares, announces, embodies, leaves, named, stays, bodied, one_more}
use Rattle.text_semantics.specs.Names.{knows, after, trouble, trouble_in, in_declaration}
use Rattle.text_semantics.specs.Meaning.{owned, number_of, entry_of}
use Rattle.text_promises.specs.Judged.{of_group}
use Rattle.text_agrees.specs.Lines.{calm_first, wants_nothing}
use Rattle.text_agrees.specs.Slots.{same_self}
use Rattle.text_agrees.specs.Patches.{body_still}
use Rattle.text_agrees.specs.Tallies.{tally, tally_more, tally-bodied}

-- THE NUMBER of a name that is known, and no local: it stays.
abbrev firm : Name → List Known → Bool
firm x [] = false
firm x (k ∷ ks) = if named x k then stays k else firm x ks

abbrev pub Numbered : Name → ℕ → List Known → Type 0
Numbered x n ks = (firm x ks ≡ true) × (number_of ks x ≡ n)

module _ (x : Name) (n : ℕ) where
  number_front : (ks qs : List Known) → Numbered x n ks → Numbered x n (ks ++ qs)
  number_front [] qs h = no_way h.0
  number_front (k ∷ ks) qs h = go (named x k) h (number_front ks qs)
    where
      go : (w : Bool) → ((if w then stays k else firm x ks) ≡ true) × ((if w then k.number else number_of ks x) ≡ n) →
          (Numbered x n ks → Numbered x n (ks ++ qs)) →
          ((if w then stays k else firm x (ks ++ qs)) ≡ true) × ((if w then k.number else number_of (ks ++ qs) x) ≡ n)
      go true h i = h
      go false h i = i h

  number_bodied : (y : Name) (ks : List Known) → Numbered x n ks → Numbered x n (map (bodied y) ks)
  number_bodied y [] h = h
  number_bodied y (k ∷ ks) h = go (named x k) h (number_bodied y ks)
    where
      go : (w : Bool) → ((if w then stays k else firm x ks) ≡ true) × ((if w then k.number else number_of ks x) ≡ n) →
          (Numbered x n ks → Numbered x n (map (bodied y) ks)) →
          ((if w then stays k else firm x (map (bodied y) ks)) ≡ true)
          × ((if w then k.number else number_of (map (bodied y) ks) x) ≡ n)
      go true h i = h
      go false h i = i h

  number_kept : (ks : List Known) → Numbered x n ks → Numbered x n (keep stays ks)
  number_kept [] h = h
  number_kept (k ∷ ks) h = go (named x k) (stays k) refl refl h (number_kept ks)
    where
      go : (w s : Bool) → named x k ≡ w → stays k ≡ s →
          ((if w then s else firm x ks) ≡ true) × ((if w then k.number else number_of ks x) ≡ n) →
          (Numbered x n ks → Numbered x n (keep stays ks)) →
          Numbered x n (if s then k ∷ keep stays ks else keep stays ks)
      go true true e f h i = rw (e, f) h
      go true false e f h i = no_way h.0
      go false true e f h i = rw e (i h)
      go false false e f h i = i h

  number_one : (ks : List Known) (e : Event) → Numbered x n ks → Numbered x n (knows ks e)
  unfolding knows
  number_one ks (asks ws y) h = h
  number_one ks (declares w y) h = number_front ks _ h
  number_one ks (announces y) h = number_front ks _ h
  number_one ks (embodies y) h = go (any (named y) ks)
    where
      go : (w : Bool) → Numbered x n (if w then map (bodied y) ks else one_more ks K.CLASS y false)
      go true = number_bodied y ks h
      go false = number_front ks _ h
  number_one ks leaves h = number_kept ks h

  pub number_all : (ks : List Known) (es : List Event) → Numbered x n ks → Numbered x n (after ks es)
  unfolding after
  number_all ks [] h = h
  number_all ks (e ∷ es) h = number_all (knows ks e) es (number_one ks e h)

-- A class that is new has the next number.
pub number_new : (x : Name) (b : Bool) (ks qs : List Known) → any (named x) ks ≡ false →
    Numbered x (tally K.CLASS qs) (ks ++ (record { name = x; what = K.CLASS; number = tally K.CLASS qs; lacks = b } ∷ []))
number_new x b [] qs h = rw (same_self x) (refl, refl)
number_new x b (k ∷ ks) qs h =
    let o = or-false (named x k) (any (named x) ks) h in rw o.0 (number_new x b ks qs o.1)

-- HOW MANY classes are known: as many as have records.
pub class_tally : (ks : List Known) (k at : ℕ) (d : Declaration) (ds : Text) → trouble_in ks (in_declaration d) ≡ none →
    tally K.CLASS (after ks (in_declaration d))
    ≡ tally K.CLASS ks + of_group K.CLASS (map (λ e. owned e at) (entry_of ks k d ds))
unfolding after knows trouble
class_tally ks k at (G.res x n) ds c = omega (arith, tally_more K.CLASS K.RES x false ks)
class_tally ks k at (G.bin x n) ds c = omega (arith, tally_more K.CLASS K.BIN x false ks)
class_tally ks k at (G.sync x) ds c = omega (arith, tally_more K.CLASS K.SYNC x false ks)
class_tally ks k at (G.var x n) ds c = omega (arith, tally_more K.CLASS K.VAR x false ks)
class_tally ks k at (G.sampler x a b n) ds c = omega (arith, tally_more K.CLASS K.SAMPLER x false ks)
class_tally ks k at (G.class x G.announced) ds c =
    let n = not-true (any (named x) ks) (wants_nothing No.AGAIN _ (calm_first ks (announces x) [] c).0) in
    rw n (omega (arith, tally_more K.CLASS K.CLASS x true ks))
class_tally ks k at (G.class x (G.body l b)) ds c = ap length (body_still x l b ks) ∙ go (any (named x) ks) _
  where
    go : (w : Bool) (j : ℕ) → tally K.CLASS (if w then map (bodied x) ks else one_more ks K.CLASS x false)
        ≡ tally K.CLASS ks + of_group K.CLASS (map (λ e. owned e at) (if w then [] else R.CLASS j ∷ []))
    go true j = omega (arith, tally-bodied K.CLASS x ks)
    go false j = omega (arith, tally_more K.CLASS K.CLASS x false ks)
class_tally ks k at (G.entity x n) ds c = omega arith
