-- Names of which each is known once: then what is said of any that has the name is said of the one that a search finds.
-- What a text does with names keeps it so, where it is in no trouble.
-- Assumes nothing.
use Rattle.std.specs.Prelude.{ℕ, ◌≡◌, Bool, not, ◌&&◌, ◌||◌, eqb, leb, length, if◌then◌else◌}
use Rattle.std.proofs.Common.{arith, ◌∙◌, ap}
use Rattle.std.proofs.Math.Path.{refl}
use mathlib.Core.List.{List, [], ◌∷◌, ◌++◌, map}
use Rattle.std.proofs.Math.Bool.{true, false, or-false}
use Rattle.std.proofs.Math.Option.{none}
use Rattle.semantics.specs.Words.{any, keep}
use Rattle.semantics.specs.Kinds as K
use Rattle.text_semantics.specs.Numbers as No
use Rattle.text_semantics.specs.Grammar.{Name}
use Rattle.text_semantics.specs.Names.{Known, named, fits, awaited, stays, one_more, bodied, wanting, knows, trouble}
use Rattle.text_semantics.specs.Names.{declares, announces, embodies, leaves}
use Rattle.text_semantics.specs.Meaning.{kind_of, number_of}
use Rattle.text_machine.specs.Machine.{most_names, keeps}
use Rattle.text_names.specs.Table.{Distinct, the_one}
use Rattle.text_names.specs.Part.{same_of, same_sym}

-- THE ONE that is found: its kind and its number are those that the definitions tell.
pub kind_of_one : (ks : List Known) (x : Name) → kind_of ks x ≡ (the_one ks x).what
unfolding the_one
kind_of_one [] x = refl
kind_of_one (k ∷ ks) x = by (named x k) (kind_of_one ks x)
  where
    by : (t : Bool) → kind_of ks x ≡ (the_one ks x).what
        → (if t then k.what else kind_of ks x) ≡ (if t then k else the_one ks x).what
    by true r = refl
    by false r = r

pub number_of_one : (ks : List Known) (x : Name) → number_of ks x ≡ (the_one ks x).number
unfolding the_one
number_of_one [] x = refl
number_of_one (k ∷ ks) x = by (named x k) (number_of_one ks x)
  where
    by : (t : Bool) → number_of ks x ≡ (the_one ks x).number
        → (if t then k.number else number_of ks x) ≡ (if t then k else the_one ks x).number
    by true r = refl
    by false r = r

-- Whose name it has has no other.
alone : (k : Known) (ks : List Known) (x : Name) → any (named k.name) ks ≡ false → named x k ≡ true → any (named x) ks ≡ false
alone k ks x d e = ap (λ y. any (named y) ks) (same_of x k.name e) ∙ d

-- What isn't there at all fits nowhere and awaits nothing.
module _ (ws : List ℕ) (x : Name) where
  no_fit : (ks : List Known) → any (named x) ks ≡ false → any (fits ws x) ks ≡ false
  no_fit [] e = refl
  no_fit (k ∷ ks) e = by (named x k) (no_fit ks) e
    where
      by : (t : Bool) → (any (named x) ks ≡ false → any (fits ws x) ks ≡ false) → t || any (named x) ks ≡ false
          → (t && any (eqb k.what) ws) || any (fits ws x) ks ≡ false
      by true r f = let z : ◌≡◌ {A = ℕ} 0 1 = cc in absurd (omega arith)
      by false r f = r f

  pub once_fits : (ks : List Known) → Distinct ks
      → any (fits ws x) ks ≡ any (named x) ks && any (eqb (the_one ks x).what) ws
  unfolding the_one
  once_fits [] d = refl
  once_fits (k ∷ ks) d = by (named x k) refl (once_fits ks d.1)
    where
      by : (t : Bool) → named x k ≡ t → any (fits ws x) ks ≡ any (named x) ks && any (eqb (the_one ks x).what) ws
          → (t && any (eqb k.what) ws) || any (fits ws x) ks
          ≡ (t || any (named x) ks) && any (eqb (if t then k else the_one ks x).what) ws
      by true e r = rw (no_fit ks (alone k ks x d.0 e)) (or-false (any (eqb k.what) ws))
      by false e r = r

module _ (x : Name) where
  not_awaited : (ks : List Known) → any (named x) ks ≡ false → any (awaited x) ks ≡ false
  not_awaited [] e = refl
  not_awaited (k ∷ ks) e = by (named x k) (not_awaited ks) e
    where
      by : (t : Bool) → (any (named x) ks ≡ false → any (awaited x) ks ≡ false) → t || any (named x) ks ≡ false
          → (t && k.lacks) || any (awaited x) ks ≡ false
      by true r f = let z : ◌≡◌ {A = ℕ} 0 1 = cc in absurd (omega arith)
      by false r f = r f

  pub once_awaited : (ks : List Known) → Distinct ks → any (awaited x) ks ≡ (the_one ks x).lacks
  unfolding the_one
  once_awaited [] d = refl
  once_awaited (k ∷ ks) d = by (named x k) refl (once_awaited ks d.1)
    where
      by : (t : Bool) → named x k ≡ t → any (awaited x) ks ≡ (the_one ks x).lacks
          → (t && k.lacks) || any (awaited x) ks ≡ (if t then k else the_one ks x).lacks
      by true e r = rw (not_awaited ks (alone k ks x d.0 e)) (or-false k.lacks)
      by false e r = r

-- EACH ONCE STAYS SO. One more that is new.
any_more : (q : Known → Bool) (ks js : List Known) → any q ks ≡ false → any q js ≡ false → any q (ks ++ js) ≡ false
any_more q [] js e f = f
any_more q (k ∷ ks) js e f = by (q k) (λ g. any_more q ks js g f) e
  where
    by : (t : Bool) → (any q ks ≡ false → any q (ks ++ js) ≡ false) → t || any q ks ≡ false → t || any q (ks ++ js) ≡ false
    by true r g = let z : ◌≡◌ {A = ℕ} 0 1 = cc in absurd (omega arith)
    by false r g = r g

distinct_more : (ks : List Known) (k : Known) → Distinct ks → any (named k.name) ks ≡ false → Distinct (ks ++ (k ∷ []))
distinct_more [] k d e = (refl, tt)
distinct_more (j ∷ ks) k d e = by (named k.name j) refl (distinct_more ks k d.1) e
  where
    by : (t : Bool) → named k.name j ≡ t → (any (named k.name) ks ≡ false → Distinct (ks ++ (k ∷ [])))
        → t || any (named k.name) ks ≡ false → Distinct ((j ∷ ks) ++ (k ∷ []))
    by true f r g = let z : ◌≡◌ {A = ℕ} 0 1 = cc in absurd (omega arith)
    by false f r g =
        let o : any (named j.name) (k ∷ []) ≡ false = rw (same_sym j.name k.name, f) in
        (any_more (named j.name) ks (k ∷ []) d.0 o, r g)

-- Some that stay.
any_kept : (q f : Known → Bool) (ks : List Known) → any q ks ≡ false → any q (keep f ks) ≡ false
any_kept q f [] e = refl
any_kept q f (k ∷ ks) e = by (q k) (f k) refl (any_kept q f ks) e
  where
    by : (t u : Bool) → q k ≡ t → (any q ks ≡ false → any q (keep f ks) ≡ false) → t || any q ks ≡ false
        → any q (if u then k ∷ keep f ks else keep f ks) ≡ false
    by true u h r g = let z : ◌≡◌ {A = ℕ} 0 1 = cc in absurd (omega arith)
    by false true h r g = rw h (r g)
    by false false h r g = r g

pub distinct_kept : (f : Known → Bool) (ks : List Known) → Distinct ks → Distinct (keep f ks)
distinct_kept f [] d = tt
distinct_kept f (k ∷ ks) d = by (f k) (distinct_kept f ks d.1)
  where
    by : (t : Bool) → Distinct (keep f ks) → Distinct (if t then k ∷ keep f ks else keep f ks)
    by true r = (any_kept (named k.name) f ks d.0, r)
    by false r = r

-- One gets its body.
any-bodied : (x y : Name) (ks : List Known) → any (named y) (map (bodied x) ks) ≡ any (named y) ks
any-bodied x y [] = refl
any-bodied x y (k ∷ ks) = ap (λ t. named y k || t) (any-bodied x y ks)

distinct_bodied : (x : Name) (ks : List Known) → Distinct ks → Distinct (map (bodied x) ks)
distinct_bodied x [] d = tt
distinct_bodied x (k ∷ ks) d = (any-bodied x k.name ks ∙ d.0, distinct_bodied x ks d.1)

-- So with what the machine keeps: a body and the end of a class need no test; a declaration must be in no trouble.
if_distinct : (t : Bool) (ks js : List Known) → Distinct ks → Distinct js → Distinct (if t then ks else js)
if_distinct true ks js d e = d
if_distinct false ks js d e = e

untroubled : (n : ℕ) (t : Bool) → wanting n (not t) ≡ none → t ≡ false
untroubled n true e = let z : ◌≡◌ {A = ℕ} 0 1 = cc in absurd (omega arith)
untroubled n false e = refl

module _ (ks : List Known) (d : Distinct ks) where
  pub declares_once : (w : ℕ) (x : Name) → trouble ks (declares w x) ≡ none → Distinct (keeps ks (declares w x))
  unfolding trouble knows
  declares_once w x e =
      if_distinct (leb most_names (length ks)) ks _ d (distinct_more ks _ d (untroubled No.AGAIN (any (named x) ks) e))

  pub announces_once : (x : Name) → trouble ks (announces x) ≡ none → Distinct (keeps ks (announces x))
  unfolding trouble knows
  announces_once x e =
      if_distinct (leb most_names (length ks)) ks _ d (distinct_more ks _ d (untroubled No.AGAIN (any (named x) ks) e))

  pub embodies_once : (x : Name) → Distinct (keeps ks (embodies x))
  unfolding knows
  embodies_once x = if_distinct (leb most_names (length ks)) ks _ d (by (any (named x) ks) refl)
    where
      by : (t : Bool) → any (named x) ks ≡ t → Distinct (if t then map (bodied x) ks else one_more ks K.CLASS x false)
      by true e = distinct_bodied x ks d
      by false e = distinct_more ks _ d e

  pub leaves_once : Distinct (knows ks leaves)
  unfolding knows
  leaves_once = distinct_kept stays ks d
