-- A row of words that is tested: it is the row of what its first words show. Assumes nothing.
use Prim.Native.Nat.{ℕ, ◌-◌, ◌≤◌}
use native.Mathlib.Omega.{arith}
use mathlib.Core.Path.{◌≡◌, refl, sym, ◌∙◌, ap, ap₂}
use mathlib.Core.List.{List, [], ◌∷◌, ◌++◌, map}
use mathlib.Core.Bool.{Bool}
use lib.ListN.{length, take, drop, replicate, length-map, length-drop}
use lib.ListN.{take-append-drop}
use lib.Seq.{take_at, drop_at, length-take-le}
use Rattle.semantics.specs.Words.{all}
use Rattle.promises.specs.Laws.{AllOf, ◌&◌}
use Rattle.promises.specs.Says.{Says, says_le, says_for, ◌and◌}
use Rattle.base_ordered.specs.Lines.{pad}
use Rattle.row_view.specs.Fits.{is_none, fits}

-- NOTHING stands there.
pub says_nothing : (xs : List ℕ) → Says (all is_none xs) (xs ≡ replicate (length xs) 0)
says_nothing [] = record { yes = λ e. refl; back = λ e. refl }
says_nothing (x ∷ xs) =
    says_for (says_le and says_nothing xs) (λ h. ap₂ ◌∷◌ (none h.0) h.1)
    (λ e. let a : x ≡ 0 = cc in (omega arith, cc))
  where
    none : x ≤ 0 → x ≡ 0
    none h = omega arith

-- A ROW of which k words are used. `again` makes the words anew of what they show.
module _ (t : ℕ → Bool) (again : List ℕ → List ℕ) (Q : List ℕ → Type 0)
    (as_long : (xs : List ℕ) → length (again xs) ≡ length xs)
    (says : (xs : List ℕ) → Says (all t xs) ((again xs ≡ xs) × Q xs)) where
  module _ (n k : ℕ) (row : List ℕ) (l : length row ≡ n) where
    abbrev Tested : Type 0
    Tested =
        (k ≤ length row)
        × (((again (take k row) ≡ take k row) × Q (take k row)) × (drop k row ≡ replicate (length (drop k row)) 0))

    abbrev pub Made : Type 0
    Made = (k ≤ n) × ((row ≡ pad n (again (take k row))) × Q (take k row))

    -- The words made anew are k, and as many zeros stand behind them.
    as_many : k ≤ n → (length (again (take k row)) ≡ k) × (n - length (again (take k row)) ≡ length (drop k row))
    as_many h =
        let a = as_long (take k row) in
        let b : length (take k row) ≡ k = length-take-le k row (omega arith) in
        let c = length-drop k row in
        (omega arith, omega arith)

    there : Tested → Made
    there h =
        let m = as_many (omega (arith, h.0)) in
        let z = ap₂ ◌++◌ (sym h.1.0.0) h.1.1 in
        let e = ap (λ j. again (take k row) ++ replicate j 0) (sym m.1) in
        omega (arith, h.0) & (sym (take-append-drop k row) ∙ z ∙ e) & h.1.0.1

    back : Made → Tested
    back h =
        let m = as_many h.0 in
        let zeros : List ℕ = replicate (n - length (again (take k row))) 0 in
        let a : take k row ≡ again (take k row) = ap (take k) h.1.0 ∙ take_at (again (take k row)) zeros k m.0 in
        let b : drop k row ≡ zeros = ap (drop k) h.1.0 ∙ drop_at (again (take k row)) zeros k m.0 in
        omega (arith, h.0) & (sym a, h.1.1) & (b ∙ ap (λ j. replicate j 0) m.1)

    pub says_row : Says (fits t k row) Made
    unfolding fits
    says_row = says_for (says_le {a = k} and says (take k row) and says_nothing (drop k row)) there back

-- WORD BY WORD: f of what g shows of each.
module _ {A : Type 0} (t : ℕ → Bool) (f : A → ℕ) (g : ℕ → A) (P : A → Type 0)
    (word : (x : ℕ) → Says (t x) ((f (g x) ≡ x) × P (g x))) where
  pub says_words : (xs : List ℕ) → Says (all t xs) ((map f (map g xs) ≡ xs) × AllOf P (map g xs))
  says_words [] = record { yes = λ e. (refl, tt); back = λ h. refl }
  says_words (x ∷ xs) =
      says_for (word x and says_words xs) (λ h. (ap₂ ◌∷◌ h.0.0 h.1.0, (h.0.1, h.1.1)))
      (λ h. let a = h.0 in (((cc), h.1.0), ((cc), h.1.1)))

  words_long : (xs : List ℕ) → length (map f (map g xs)) ≡ length xs
  words_long xs = length-map (map g xs) f ∙ length-map xs g

  pub says_shown : (n k : ℕ) (row : List ℕ) → length row ≡ n
      → Says (fits t k row)
      ((k ≤ n) × ((row ≡ pad n (map f (map g (take k row)))) × AllOf P (map g (take k row))))
  says_shown n k row l =
      says_row t (λ xs. map f (map g xs)) (λ xs. AllOf P (map g xs)) words_long says_words n k row l
