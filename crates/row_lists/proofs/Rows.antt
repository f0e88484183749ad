-- A row that shows a list, after a number was put in or taken out: it shows the list with one more or one less.
-- Assumes nothing.
use Prim.Native.Nat.{ℕ, ◌≤◌}
use mathlib.Core.Path.{◌≡◌, ◌∙◌, ap}
use mathlib.Core.List.{List, map}
use lib.ListN.{length, take}
use Rattle.base_ordered.specs.Lines.{pad, inserted, removed}
use Rattle.base_ordered.specs.Shown.{one_more, one_less}
use Rattle.row_work.specs.Shown.{row_length}

module _ {A : Type 0} (f : A → ℕ) (es : List A) (k : ℕ) (row : List ℕ) (n : ℕ)
    (shows : row ≡ pad k (map f es)) (all_of : n ≡ length es) (few : length es ≤ k) where
  pub row_wide : length row ≡ k
  row_wide = ap length shows ∙ row_length k f es few

  pub row_put : (at v : ℕ) (e : A) → v ≡ f e → (x : List ℕ) → x ≡ pad (length row) (inserted at v (take n row))
      → x ≡ pad k (map f (inserted at e es))
  row_put at v e g x h =
      h
      ∙ ap (λ j. pad j (inserted at v (take n row))) row_wide
      ∙ ap (λ j. pad k (inserted at j (take n row))) g
      ∙ one_more f es k row n shows all_of at e

  pub row_out : (at : ℕ) (x : List ℕ) → x ≡ pad (length row) (removed at (take n row)) → x ≡ pad k (map f (removed at es))
  row_out at x h = h ∙ ap (λ j. pad j (removed at (take n row))) row_wide ∙ one_less f es k row n shows all_of at
