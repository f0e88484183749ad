-- A row cut into parts of given widths, and its first words one by one. Assumes nothing.
use Prim.Native.Nat.{ℕ, zero, suc, ◌+◌, ◌≤◌}
use native.Mathlib.Omega.{arith}
use mathlib.Core.Path.{◌≡◌, refl, sym, ◌∙◌, ap}
use mathlib.Core.List.{List, [], ◌∷◌, ◌++◌}
use lib.ListN.{length, get_or, take, drop, length-drop, drop_of_length-le, take-append-drop}
use lib.Seq.{drop-cons, drop-drop, length-take-le}
use Rattle.semantics.specs.Words.{sum}
use Rattle.row_work.specs.Laid.{laid}
use Rattle.row_view.specs.View.{cut}

abbrev pub cuts_from : ℕ → List ℕ → List ℕ → List (List ℕ)
cuts_from a [] w = []
cuts_from a (n ∷ ns) w = cut a n w ∷ cuts_from (a + n) ns w

pub laid_cuts : (a : ℕ) (ns w : List ℕ) → length w ≡ a + sum ns → laid (cuts_from a ns w) ≡ drop a w
unfolding laid
laid_cuts a [] w l = let h : length w ≤ a = omega arith in sym (drop_of_length-le w h)
laid_cuts a (n ∷ ns) w l =
    ap (λ r. cut a n w ++ r) (laid_cuts (a + n) ns w (omega arith) ∙ sym (drop-drop n a w)) ∙ take-append-drop n (drop a w)

pub cut_long : (a n : ℕ) (w : List ℕ) → a + n ≤ length w → length (cut a n w) ≡ n
cut_long a n w h = length-take-le n (drop a w) (omega (arith, length-drop a w))

-- The n words from k on.
abbrev pub words : ℕ → ℕ → List ℕ → List ℕ
words zero k w = []
words (suc n) k w = get_or w k 0 ∷ words n (suc k) w

pub cut-words : (n k : ℕ) (w : List ℕ) → k + n ≤ length w → cut k n w ≡ words n k w
cut-words zero k w h = refl
cut-words (suc n) k w h =
    ap (take (suc n)) (drop-cons w k 0 (omega arith)) ∙ ap (λ l. get_or w k 0 ∷ l) (cut-words n (suc k) w (omega arith))
