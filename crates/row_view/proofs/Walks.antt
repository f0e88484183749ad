-- Round a loop that tests each word of a row. Assumes nothing.
use Prim.Native.Nat.{ℕ, zero, suc, ◌+◌, ◌-◌, ◌≤◌, ◌<◌}
use native.Mathlib.Omega.{arith}
use native.Mathlib.Numerals.{add-one}
use mathlib.Core.Path.{◌≡◌, refl, sym, ◌∙◌, ap}
use mathlib.Core.List.{List}
use mathlib.Core.Bool.{Bool, true, false, ◌&&◌}
use borrow.Author.Tests.{le-leb, lt-leb}
use lib.ListN.{length, get_or, take, drop, drop_of_length-le}
use lib.Seq.{drop-cons}
use Rattle.semantics.specs.Words.{all}
use Rattle.file_check_parts.proofs.Laws.{rest_of}
use Rattle.row_view.specs.View.{seated}
use Rattle.row_view.specs.Fits.{is_none, fits}

pub and_right : (b : Bool) → b && true ≡ b
and_right true = refl
and_right false = refl

pub and_assoc : (a b c : Bool) → (a && b) && c ≡ a && (b && c)
and_assoc true b c = refl
and_assoc false b c = refl

-- The test t goes over the row; `ok` says whether the first i words pass.
module _ (t : ℕ → Bool) (row : List ℕ) where
  pub record Walked (ok : Bool) (i : ℕ) : Type 0 where
    pub short : i ≤ length row
    pub same : ok && all t (drop i row) ≡ all t row

  pub walk_starts : Walked true 0
  walk_starts = record { short = omega arith; same = refl }

  pub walk_turn : {ok : Bool} {i : ℕ} → Walked ok i → i < length row → {b : Bool} → b ≡ t (get_or row i 0)
      → Walked (ok && b) (i + 1)
  walk_turn {ok} {i} w h {b} e =
      record {
        short = omega arith;
        same =
            and_assoc ok b (all t (drop (i + 1) row))
            ∙ ap (λ x. ok && (x && all t (drop (i + 1) row))) e
            ∙ ap (λ j. ok && (t (get_or row i 0) && all t (drop j row))) (add-one i)
            ∙ ap (λ l. ok && all t l) (sym (drop-cons row i 0 h))
            ∙ w.same;
      }

  pub walk_ends : {ok : Bool} {i : ℕ} → Walked ok i → length row ≤ i → ok ≡ all t row
  walk_ends {ok} {i} w h = sym (and_right ok) ∙ ap (λ l. ok && all t l) (sym (drop_of_length-le row h)) ∙ w.same

-- A ROW of which n words are used: too short for them; and tested in its two parts.
module _ (t : ℕ → Bool) (n : ℕ) (row : List ℕ) where
  pub too_short : length row < n → false ≡ fits t n row
  unfolding fits
  too_short h = rw (lt-leb n (length row) h)

  pub two_parts : n ≤ length row → {a b : Bool} → a ≡ all t (take (n - 0) row)
      → b ≡ all is_none (take (length row - n) (drop n row)) → a && b ≡ fits t n row
  unfolding fits
  two_parts h p q =
      let e : n - 0 ≡ n = omega arith in
      rw (le-leb n (length row) h, p, q, e, rest_of n row)

pub seats : (d n : ℕ) → (d ≡ 0 → ⊥) → n ≡ seated d n
seats zero n h = absurd (h refl)
seats (suc d) n h = refl
