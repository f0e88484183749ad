-- What loops over the rows have still to look at, and where they come to the words of the specification.
-- Assumes nothing.
use Rattle.std.specs.Prelude.{ℕ, suc, ◌+◌, ◌<◌, ◌≡◌, List, [], ◌∷◌, Bool, true, false, ◌||◌, eqb, length, get_or, drop, if◌then◌else◌}
use Rattle.std.specs.Prelude.{Option, Some, None}
use Rattle.std.proofs.Common.{arith, zero-add, sym, ◌∙◌, ap, drop-cons}
use Rattle.std.proofs.Math.Numerals.{add-one}
use Rattle.std.proofs.Math.Path.{refl}
use mathlib.Core.Bool.{or_assoc}
use Rattle.semantics.specs.Words.{any, keep, first_at}
use Rattle.semantics.specs.Kinds as K
use Rattle.text_semantics.specs.Grammar.{Name}
use Rattle.text_semantics.specs.Names.{Known, named}
use Rattle.text_machine.specs.Machine.{lacking}
use Rattle.text_names.specs.declared.Row.{Row}
use Rattle.text_names.specs.Table.{name_of, known_by, known_of, key_of, Right, place_in, lacking_class}
use Rattle.text_names.specs.Part.{other_by}

-- A SEARCH, from the place i on.
abbrev pub found_from : ℕ → List Known → Name → Option ℕ
found_from i [] x = None
found_from i (k ∷ ks) x = if named x k then Some i else found_from (suc i) ks x

searched : (i : ℕ) (ks : List Known) (x : Name)
    → found_from i ks x ≡ (if any (named x) ks then Some (i + first_at (named x) ks) else None)
searched i [] x = refl
searched i (k ∷ ks) x = by (named x k) (searched (suc i) ks x)
  where
    by : (t : Bool) → found_from (suc i) ks x ≡ (if any (named x) ks then Some (suc i + first_at (named x) ks) else None)
        → (if t then Some i else found_from (suc i) ks x)
        ≡ (if t || any (named x) ks then Some (i + (if t then 0 else suc (first_at (named x) ks))) else None)
    by true r = let e : i ≡ i + 0 = omega arith in ap Some e
    by false r =
        let e : suc i + first_at (named x) ks ≡ i + suc (first_at (named x) ks) = omega arith in
        r ∙ ap (λ m. if any (named x) ks then Some m else None) e

pub search_all : (ks : List Known) (x : Name) → found_from 0 ks x ≡ place_in ks x
search_all ks x = searched 0 ks x ∙ ap (λ m. if any (named x) ks then Some m else None) (zero-add (first_at (named x) ks))

module _ (bs : List ℕ) (rows : List Row) (x : Name) (i : ℕ) (d : Row) (h : i < length rows) where
  pub search_on : named x (known_by bs (get_or rows i d)) ≡ false
      → found_from (i + 1) (known_of bs (drop (i + 1) rows)) x ≡ found_from i (known_of bs (drop i rows)) x
  search_on e = rw (drop-cons rows i d h, add-one i, e) refl

-- A row with another key has another name.
pub other_key : (bs : List ℕ) (r : Row) (x : Name) (k : ℕ) → Right bs r → k ≡ key_of 0 x → (r.key ≡ k → ⊥)
    → named x (known_by bs r) ≡ false
other_key bs r x k f e n = other_by (key_of 0) x (name_of bs r) (λ o. n (f.keyed ∙ sym o ∙ sym e))

-- A CLASS THAT LACKS ITS BODY: so many classes before, and whether another name lacked one.
abbrev pub is_class : Known → Bool
is_class k = eqb k.what K.CLASS

abbrev pub left_lacking : Bool → ℕ → List Known → Option ℕ
left_lacking o c [] = if o then Some c else None
left_lacking o c (k ∷ ks) =
    if is_class k
    then if k.lacks then Some c else left_lacking o (suc c) ks
    else left_lacking (o || k.lacks) c ks

lacks_left : (o : Bool) (c : ℕ) (ks : List Known)
    → left_lacking o c ks ≡ (if o || any lacking ks then Some (c + first_at lacking (keep is_class ks)) else None)
lacks_left true c [] = let e : c ≡ c + 0 = omega arith in ap Some e
lacks_left false c [] = refl
lacks_left o c (k ∷ ks) = by (is_class k) k.lacks refl (lacks_left o (suc c) ks) (λ p. lacks_left p c ks)
  where
    rest : ℕ
    rest = first_at lacking (keep is_class ks)

    always : (p : Bool) → Some c ≡ (if p || true then Some (c + 0) else None)
    always true = let e : c ≡ c + 0 = omega arith in ap Some e
    always false = let e : c ≡ c + 0 = omega arith in ap Some e

    by : (t l : Bool) → k.lacks ≡ l
        → left_lacking o (suc c) ks ≡ (if o || any lacking ks then Some (suc c + rest) else None)
        → ((p : Bool) → left_lacking p c ks ≡ (if p || any lacking ks then Some (c + rest) else None))
        → (if t then if l then Some c else left_lacking o (suc c) ks else left_lacking (o || l) c ks)
        ≡ (if o || (l || any lacking ks) then Some (c + first_at lacking (if t then k ∷ keep is_class ks else keep is_class ks)) else None)
    by true true g r s = rw g (always o)
    by true false g r s =
        let e : suc c + rest ≡ c + suc rest = omega arith in
        rw g (r ∙ ap (λ m. if o || any lacking ks then Some m else None) e)
    by false l g r s = s (o || l) ∙ ap (λ b. if b then Some (c + rest) else None) (or_assoc o l (any lacking ks))

pub lacks_all : (ks : List Known) → left_lacking false 0 ks ≡ lacking_class ks
lacks_all ks =
    lacks_left false 0 ks
    ∙ ap (λ m. if any lacking ks then Some m else None) (zero-add (first_at lacking (keep is_class ks)))
