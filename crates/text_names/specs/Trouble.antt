-- Trouble with a name, by what a search found of it; and lists of kinds that ask for the same.
-- Assumes nothing.
use Rattle.std.specs.Prelude.{ℕ, ◌≡◌, List, [], ◌∷◌, Bool, ◌&&◌, ◌||◌, eqb, Some, None, Result, Ok, Err, if◌then◌else◌}
use Rattle.std.specs.Prelude as Code
use Rattle.std.proofs.Math.Option.{Option, none, some}
use Rattle.std.proofs.Math.Path.{refl, ap}
use Rattle.std.proofs.Common.{sym, ◌∙◌}
use Rattle.std.proofs.Math.Bool.{true, false, not}
use Rattle.semantics.specs.Words.{any, first_at}
use Rattle.text_semantics.specs.Numbers as No
use Rattle.text_semantics.specs.Grammar.{Name}
use Rattle.text_semantics.specs.Names.{Known, named, fits, awaited, wanting, trouble, asks, declares, announces, embodies}
use Rattle.text_semantics.specs.Meaning.{kind_of}
use Rattle.text_semantics.specs.Meaning as Meaning
use Rattle.text_names.specs.declared.Found.{Found}
use Rattle.text_names.specs.declared.Trouble.{Trouble}
use Rattle.text_names.specs.declared.Trouble.TheVariants.{Unknown, Again}
use Rattle.text_names.specs.Table.{Distinct, the_one, found_of}
use Rattle.text_names.specs.Once.{kind_of_one, once_fits, once_awaited}

-- A trouble by its number, as the definitions have it; and that of an answer, none where it is no trouble.
abbrev pub number_of : Trouble → ℕ
number_of Unknown = No.UNKNOWN
number_of Again = No.AGAIN

abbrev pub trouble_in : {A : Type 0} → Result A Trouble → Option ℕ
trouble_in (Ok x) = none
trouble_in (Err t) = some (number_of t)

-- BY WHAT WAS FOUND.
abbrev pub is_of : List ℕ → Code.Option Found → Bool
is_of ws None = false
is_of ws (Some f) = any (eqb f.kind) ws

abbrev pub asked_of : Code.Option Found → List ℕ → Result (Unit {0}) Trouble
asked_of f ws = if is_of ws f then Ok tt else Err Unknown

abbrev pub declared_of : Code.Option Found → Result (Unit {0}) Trouble
declared_of None = Ok tt
declared_of (Some f) = Err Again

abbrev pub embodied_of : Code.Option Found → Result (Unit {0}) Trouble
embodied_of None = Ok tt
embodied_of (Some f) = if f.lacks then Ok tt else Err Again

module _ (ks : List Known) (x : Name) (d : Distinct ks) where
  fits_found : (ws : List ℕ) → any (fits ws x) ks ≡ is_of ws (found_of ks x)
  fits_found ws =
      once_fits ws x ks d ∙ ap (λ w. any (named x) ks && any (eqb w) ws) (sym (kind_of_one ks x)) ∙ by (any (named x) ks)
    where
      by : (t : Bool) → (t && any (eqb (kind_of ks x)) ws)
          ≡ is_of ws (if t then Some (record {
            place = first_at (named x) ks;
            kind = kind_of ks x;
            number = Meaning.number_of ks x;
            lacks = (the_one ks x).lacks;
          }) else None)
      by true = refl
      by false = refl

  awaited_found : (if any (awaited x) ks then true else not (any (named x) ks))
      ≡ not (any (named x) ks && not (the_one ks x).lacks)
  awaited_found = rw (once_awaited x ks d) (by (the_one ks x).lacks (any (named x) ks))
    where
      by : (l k : Bool) → (if l then true else not k) ≡ not (k && not l)
      by true true = refl
      by true false = refl
      by false true = refl
      by false false = refl

-- A trouble as a number: 0 is none. No function tells it so any more; its laws stand because they stood.
abbrev pub told : Option ℕ → ℕ
told none = 0
told (some n) = n

told-wanting : (n : ℕ) (t : Bool) → (if t then 0 else n) ≡ told (wanting n t)
told-wanting n true = refl
told-wanting n false = refl

told-not : (n : ℕ) (t : Bool) → (if t then n else 0) ≡ told (wanting n (not t))
told-not n true = refl
told-not n false = refl

-- The trouble that an answer is.
trouble-wanting : (t : Bool) → trouble_in {A = Unit {0}} (if t then Ok tt else Err Unknown) ≡ wanting No.UNKNOWN t
trouble-wanting true = refl
trouble-wanting false = refl

module _ (ks : List Known) (x : Name) where
  abbrev one : Found
  one = record {
    place = first_at (named x) ks;
    kind = kind_of ks x;
    number = Meaning.number_of ks x;
    lacks = (the_one ks x).lacks;
  }

  trouble-known : (t : Bool) → trouble_in (declared_of (if t then Some one else None)) ≡ wanting No.AGAIN (not t)
  trouble-known true = refl
  trouble-known false = refl

  trouble-bodied : (t l : Bool) → (the_one ks x).lacks ≡ l
      → trouble_in (embodied_of (if t then Some one else None)) ≡ wanting No.AGAIN (not (t && not l))
  trouble-bodied true true e = rw e
  trouble-bodied true false e = rw e
  trouble-bodied false l e = refl

  pub declared_trouble : (w : ℕ) → trouble_in (declared_of (found_of ks x)) ≡ trouble ks (declares w x)
  unfolding trouble
  declared_trouble w = trouble-known (any (named x) ks)

  pub announced_trouble : trouble_in (declared_of (found_of ks x)) ≡ trouble ks (announces x)
  unfolding trouble
  announced_trouble = trouble-known (any (named x) ks)

  module _ (d : Distinct ks) where
    pub asked_trouble : (ws : List ℕ) → trouble_in (asked_of (found_of ks x) ws) ≡ trouble ks (asks ws x)
    unfolding trouble
    asked_trouble ws =
        trouble-wanting (is_of ws (found_of ks x)) ∙ ap (wanting No.UNKNOWN) (sym (fits_found ks x d ws))

    pub embodied_trouble : trouble_in (embodied_of (found_of ks x)) ≡ trouble ks (embodies x)
    unfolding trouble
    embodied_trouble =
        trouble-bodied (any (named x) ks) (the_one ks x).lacks refl ∙ ap (wanting No.AGAIN) (sym (awaited_found ks x d))

-- LISTS THAT ASK FOR THE SAME: a kind may stand there more than once.
fits_alike : (ws vs : List ℕ) → ((w : ℕ) → any (eqb w) ws ≡ any (eqb w) vs) → (x : Name) (ks : List Known)
    → any (fits ws x) ks ≡ any (fits vs x) ks
fits_alike ws vs h x [] = refl
fits_alike ws vs h x (k ∷ ks) =
    let a : any (eqb k.what) ws ≡ any (eqb k.what) vs = h k.what in
    let r : any (fits ws x) ks ≡ any (fits vs x) ks = fits_alike ws vs h x ks in
    cc

module _ (ks : List Known) (x : Name) (a b : ℕ) where
  pub asks_one : trouble ks (asks (a ∷ a ∷ a ∷ []) x) ≡ trouble ks (asks (a ∷ []) x)
  unfolding trouble
  asks_one = ap (wanting No.UNKNOWN) (fits_alike (a ∷ a ∷ a ∷ []) (a ∷ []) (λ w. by (eqb w a)) x ks)
    where
      by : (t : Bool) → t || (t || (t || false)) ≡ t || false
      by true = refl
      by false = refl

  pub asks_two : trouble ks (asks (a ∷ b ∷ b ∷ []) x) ≡ trouble ks (asks (a ∷ b ∷ []) x)
  unfolding trouble
  asks_two = ap (wanting No.UNKNOWN) (fits_alike (a ∷ b ∷ b ∷ []) (a ∷ b ∷ []) (λ w. by (eqb w a) (eqb w b)) x ks)
    where
      by : (t u : Bool) → t || (u || (u || false)) ≡ t || (u || false)
      by true u = refl
      by false true = refl
      by false false = refl
