-- Whether any name lacks its body, by the number of the first class that does: it is below as many as are kept. It is told by
-- what the names are and by which of them lack a body, whatever they are called.
-- Assumes nothing.
use Rattle.std.specs.Prelude.{ℕ, suc, ◌≤◌, ◌<◌, ◌≡◌, refl, List, [], ◌∷◌, map, Bool, true, false, ◌||◌, eqb, ltb, length, if◌then◌else◌}
use Rattle.std.proofs.Common.{arith, sym, ◌∙◌, ap, lt-ltb}
use Rattle.semantics.specs.Words.{any, keep, first_at}
use Rattle.semantics.specs.Kinds as K
use Rattle.text_semantics.specs.Names.{Known}
use Rattle.text_machine.specs.Machine.{most_names, lacking}
use Rattle.text_names.specs.declared.Row.{Row}
use Rattle.text_names.specs.Table.{known_by, known_of, lacking_in, lacking_of, lacking_class}

module _ (p q : Known → Bool) where
  no_more : (ks : List Known) → first_at q (keep p ks) ≤ length ks
  no_more [] = omega arith
  no_more (k ∷ ks) = by (p k) (q k) refl (no_more ks)
    where
      by : (t u : Bool) → q k ≡ u → first_at q (keep p ks) ≤ length ks
          → first_at q (if t then k ∷ keep p ks else keep p ks) ≤ suc (length ks)
      by true true e r = rw e (omega arith)
      by true false e r = rw e (omega arith)
      by false u e r = omega arith

  fewer : (ks : List Known) → any q ks ≡ true → first_at q (keep p ks) < length ks
  fewer [] e = let z : ◌≡◌ {A = ℕ} 0 1 = cc in absurd (omega arith)
  fewer (k ∷ ks) e = by (p k) (q k) refl (no_more ks) (fewer ks) e
    where
      by : (t u : Bool) → q k ≡ u → first_at q (keep p ks) ≤ length ks → (any q ks ≡ true → first_at q (keep p ks) < length ks)
          → u || any q ks ≡ true → first_at q (if t then k ∷ keep p ks else keep p ks) < suc (length ks)
      by true true d l r g = rw d (omega arith)
      by true false d l r g = let h : first_at q (keep p ks) < length ks = r g in rw d (omega arith)
      by false true d l r g = omega arith
      by false false d l r g = let h : first_at q (keep p ks) < length ks = r g in omega arith

abbrev is_class : Known → Bool
is_class k = eqb k.what K.CLASS

-- Without name and number.
abbrev bare : Known → Known
bare k = record { name = []; what = k.what; number = 0; lacks = k.lacks }

any-bare : (ks : List Known) → any lacking (map bare ks) ≡ any lacking ks
any-bare [] = refl
any-bare (k ∷ ks) = ap (λ t. k.lacks || t) (any-bare ks)

first_bare : (ks : List Known) → first_at lacking (keep is_class (map bare ks)) ≡ first_at lacking (keep is_class ks)
first_bare [] = refl
first_bare (k ∷ ks) = by (is_class k) (first_bare ks)
  where
    by : (t : Bool) → first_at lacking (keep is_class (map bare ks)) ≡ first_at lacking (keep is_class ks)
        → first_at lacking (if t then bare k ∷ keep is_class (map bare ks) else keep is_class (map bare ks))
        ≡ first_at lacking (if t then k ∷ keep is_class ks else keep is_class ks)
    by true e = ap (λ m. if k.lacks then 0 else suc m) e
    by false e = e

-- What is known by rows, without name and number, is so whatever the text is.
nameless : (bs : List ℕ) (rows : List Row) → map bare (known_of [] rows) ≡ map bare (known_of bs rows)
nameless bs [] = refl
nameless bs (r ∷ rows) = ap (λ ks. bare (known_by bs r) ∷ ks) (nameless bs rows)

lacking_bare : (ks : List Known) → lacking_in (map bare ks) ≡ lacking_in ks
lacking_bare ks = rw (any-bare ks, first_bare ks)

pub lacking_known : (bs : List ℕ) (rows : List Row) → lacking_of rows ≡ lacking_in (known_of bs rows)
lacking_known bs rows =
    sym (lacking_bare (known_of [] rows)) ∙ ap lacking_in (nameless bs rows) ∙ lacking_bare (known_of bs rows)

class_bare : (ks : List Known) → lacking_class (map bare ks) ≡ lacking_class ks
class_bare ks = rw (any-bare ks, first_bare ks)

pub class_known : (bs : List ℕ) (rows : List Row) → lacking_class (known_of [] rows) ≡ lacking_class (known_of bs rows)
class_known bs rows =
    sym (class_bare (known_of [] rows)) ∙ ap lacking_class (nameless bs rows) ∙ class_bare (known_of bs rows)

pub lacks_any : (ks : List Known) → length ks ≤ most_names → ltb (lacking_in ks) most_names ≡ any lacking ks
lacks_any ks h = by (any lacking ks) refl
  where
    by : (t : Bool) → any lacking ks ≡ t → ltb (if t then first_at lacking (keep is_class ks) else most_names) most_names ≡ t
    by true e =
        let l : first_at lacking (keep is_class ks) < length ks = fewer is_class lacking ks e in
        lt-ltb (first_at lacking (keep is_class ks)) most_names (omega arith)
    by false e = refl
