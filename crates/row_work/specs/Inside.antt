-- A row within a longer one: cut out, and another in its place. Assumes nothing.
use Rattle.std.specs.Prelude.{ℕ, zero, suc, ◌+◌, ◌≤◌, ◌<◌, ◌≡◌, List, [], ◌∷◌, ◌++◌, length, get_or, set, take, drop}
use Rattle.std.proofs.Common.{arith, ◌∙◌, ap, append_assoc, length-append, length-take, length-drop, get_or-take, get_or-drop}
use Rattle.std.proofs.lemmas.List.{take-append-le, drop-append-le}
use Rattle.std.proofs.Math.Seq.{take-append-add, drop-append-add}
use Rattle.row_work.specs.Laid.{Wide}

-- Rows of their widths, with another of its width at k.
pub wide_replaced : (xs : List (List ℕ)) (ws : List ℕ) → Wide xs ws → (k : ℕ) (ys : List ℕ) → length ys ≡ get_or ws k 0
    → Wide (set xs k ys) ws
wide_replaced [] [] h k ys e = tt
wide_replaced [] (n ∷ ws) h k ys e = absurd h
wide_replaced (x ∷ xs) [] h k ys e = absurd h
wide_replaced (x ∷ xs) (n ∷ ws) h zero ys e = (e, h.1)
wide_replaced (x ∷ xs) (n ∷ ws) h (suc k) ys e = (h.0, wide_replaced xs ws h.1 k ys e)

-- A number of the part is a number of the whole.
pub part_at : (xs : List ℕ) (a k i : ℕ) → i < k → get_or (take k (drop a xs)) i 0 ≡ get_or xs (a + i) 0
part_at xs a k i h = get_or-take k (drop a xs) i 0 h ∙ get_or-drop a xs i 0

-- Another of the same width: the whole is as long as before.
pub whole_long : (xs : List ℕ) (a k : ℕ) (ys : List ℕ) → a + k ≤ length xs → length ys ≡ k
    → length (take a xs ++ (ys ++ drop k (drop a xs))) ≡ length xs
whole_long xs a k ys h e = simp (length-append, length-take, length-drop) (omega arith)

-- A row of n at j of Q, where Q stands between P and R.
module _ (P Q R : List ℕ) (j n : ℕ) (h : j + n ≤ length Q) where
  from_on : drop (length P + j) (P ++ (Q ++ R)) ≡ drop j Q ++ R
  from_on = drop-append-add P (Q ++ R) j ∙ drop-append-le j Q R (omega arith)

  enough : n ≤ length (drop j Q)
  enough = omega (arith, length-drop j Q)

  pub inner_part : take n (drop (length P + j) (P ++ (Q ++ R))) ≡ take n (drop j Q)
  inner_part = ap (take n) from_on ∙ take-append-le n (drop j Q) R enough

  pub inner_replaced : (ys : List ℕ)
      → take (length P + j) (P ++ (Q ++ R)) ++ (ys ++ drop n (drop (length P + j) (P ++ (Q ++ R))))
      ≡ P ++ ((take j Q ++ (ys ++ drop n (drop j Q))) ++ R)
  inner_replaced ys =
      ap (λ l. l ++ (ys ++ drop n (drop (length P + j) (P ++ (Q ++ R))))) front
      ∙ ap (λ l. (P ++ take j Q) ++ (ys ++ drop n l)) from_on
      ∙ ap (λ l. (P ++ take j Q) ++ (ys ++ l)) (drop-append-le n (drop j Q) R enough)
      ∙ simp append_assoc
    where
      front : take (length P + j) (P ++ (Q ++ R)) ≡ P ++ take j Q
      front = take-append-add P (Q ++ R) j ∙ ap (λ l. P ++ l) (take-append-le j Q R (omega arith))
