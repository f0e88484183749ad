-- What was found of a name, and the sorts of symbols by their numbers. Assumes nothing.
use Rattle.std.specs.Prelude.{ℕ, ◌≡◌, List, Bool, true, false, Some, None, get_or, if◌then◌else◌}
use Rattle.std.proofs.Common.{arith, sym, ◌∙◌, ap}
use Rattle.std.proofs.Math.Path.{refl}
use mathlib.Core.List.{[], ◌∷◌}
use mathlib.Core.Bool.{◌||◌}
use Rattle.semantics.specs.Words.{any, first_at}
use Rattle.text_semantics.specs.Grammar.{Name}
use Rattle.text_semantics.specs.Names.{Known, named, LOCAL}
use Rattle.text_semantics.specs.Meaning.{kind_of, number_of}
use Rattle.text_names.specs.declared.Found.{Found}
use Rattle.text_names.specs.Table.{found_of, the_one}
use Rattle.text_reader.specs.declared.sort.Sort.{Sort}
use Rattle.text_reader.specs.declared.sort.Sort.TheVariants as S
use Rattle.text_reader.specs.Named.{sort_number, number_if}

-- Where nobody has the name.
none_known : (ks : List Known) (x : Name) → any (named x) ks ≡ false → (LOCAL ≡ kind_of ks x) × (0 ≡ number_of ks x)
none_known [] x e = (refl, refl)
none_known (k ∷ ks) x e = by (named x k) (none_known ks x) e
  where
    by : (t : Bool) → (any (named x) ks ≡ false → (LOCAL ≡ kind_of ks x) × (0 ≡ number_of ks x)) → t || any (named x) ks ≡ false
        → (LOCAL ≡ (if t then k.what else kind_of ks x)) × (0 ≡ (if t then k.number else number_of ks x))
    by true r g = absurd (let z : ◌≡◌ {A = ℕ} 0 1 = cc in omega arith)
    by false r g = r g

module _ (ks : List Known) (x : Name) where
  abbrev one : Found
  one = record {
    place = first_at (named x) ks;
    kind = kind_of ks x;
    number = number_of ks x;
    lacks = (the_one ks x).lacks;
  }

  pub known_some : (f : Found) → found_of ks x ≡ Some f
      → (f.kind ≡ kind_of ks x) × ((f.number ≡ number_of ks x) × (Some f.number ≡ number_if ks x))
  known_some f e = by (any (named x) ks) e
    where
      by : (t : Bool) → (if t then Some one else None) ≡ Some f
          → (f.kind ≡ kind_of ks x) × ((f.number ≡ number_of ks x) × (Some f.number ≡ (if t then Some (number_of ks x) else None)))
      by true g =
          let h : one ≡ f = cc in
          (sym (ap (λ y. y.kind) h), (sym (ap (λ y. y.number) h), ap Some (sym (ap (λ y. y.number) h))))
      by false g = absurd (let z : ◌≡◌ {A = ℕ} 0 1 = cc in omega arith)

  pub known_none : found_of ks x ≡ None
      → (LOCAL ≡ kind_of ks x) × ((0 ≡ number_of ks x) × (number_if ks x ≡ None))
  known_none e = by (any (named x) ks) refl e
    where
      by : (t : Bool) → any (named x) ks ≡ t → (if t then Some one else None) ≡ None
          → (LOCAL ≡ kind_of ks x) × ((0 ≡ number_of ks x) × ((if t then Some (number_of ks x) else None) ≡ None))
      by true h g = absurd (let z : ◌≡◌ {A = ℕ} 0 1 = cc in omega arith)
      by false h g = let n = none_known ks x h in (n.0, (n.1, refl))

-- SORTS by their numbers.
abbrev numbered : ℕ → Sort
numbered n =
    get_or (S.Other ∷ S.Semi ∷ S.Brace ∷ S.Named ∷ S.Value ∷ S.More ∷ S.Variable ∷ S.Block ∷ S.Body ∷ S.Text ∷ []) n S.Other

back : (s : Sort) → numbered (sort_number s) ≡ s
back S.Other = refl
back S.Semi = refl
back S.Brace = refl
back S.Named = refl
back S.Value = refl
back S.More = refl
back S.Variable = refl
back S.Block = refl
back S.Body = refl
back S.Text = refl

pub other_number : (s t : Sort) → (s ≡ t → ⊥) → sort_number s ≡ sort_number t → ⊥
other_number s t h e = h (sym (back s) ∙ ap numbered e ∙ back t)
