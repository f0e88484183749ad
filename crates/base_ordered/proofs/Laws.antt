-- What a turn and the end of each loop over a row need. Assumes nothing.
use mathlib.Core.Path.{◌≡◌, sym, ◌∙◌, ap}
use mathlib.Core.List.{List, [], ◌∷◌, ◌++◌, append_assoc}
use mathlib.Core.Bool.{Bool, true, false}
use Prim.Native.Nat.{ℕ, zero, suc, ◌+◌, ◌-◌, ◌≤◌, ◌<◌}
use native.Mathlib.Numerals.{add-one, sub-one}
use native.Mathlib.Omega.{arith}
use lib.ListN.{length, take, drop, get_or, set, replicate, length-append}
use lib.Seq.{take-suc-set, drop-set-lt, drop-cons, append_snoc, take-append-le, drop-append-le, take_at, drop_at, set_split}
use lib.Seq.{take-set-le, take-suc, length-take-le, get_or-take, drop-length}
use Rattle.semantics.specs.Words.{keep}
use Rattle.base_ordered.specs.Lines.{pad, Canon, inserted, removed, place_of}
use Rattle.base_ordered.specs.Order.{inserted-length, removed-length}

-- A ROW and its list, which has as many numbers as it says.
module _ (row : List ℕ) (n : ℕ) (c : Canon row n) where
  counted : length (take n row) ≡ n
  counted = length-take-le n row c.room

  spelled : row ≡ take n row ++ replicate (length row - n) 0
  spelled = c.zeros ∙ ap (λ m. take n row ++ replicate (length row - m) 0) counted

-- A SEARCH of the first n, one turn, a stop, and the end.
module _ (row : List ℕ) (n : ℕ) (c : Canon row n) where
  -- What is left at k: its number, and what is left behind it.
  left : (k : ℕ) → k < n → drop k (take n row) ≡ get_or row k 0 ∷ drop (k + 1) (take n row)
  left k h =
      drop-cons (take n row) k 0 (omega (arith, counted row n c)) ∙ rw (get_or-take n row k 0 h, add-one k)

  none_left : drop n (take n row) ≡ []
  none_left = ap (λ m. drop m (take n row)) (sym (counted row n c)) ∙ drop-length (take n row)

  module _ (q : ℕ → Bool) (m : ℕ) where
    pub go : (k : ℕ) → k < n → q (get_or row k 0) ≡ true → k + place_of q (drop k (take n row)) ≡ m
        → k + 1 + place_of q (drop (k + 1) (take n row)) ≡ m
    unfolding place_of
    go k h e p =
        let x : place_of q (drop k (take n row)) ≡ suc (place_of q (drop (k + 1) (take n row))) = rw (left k h, e) in omega arith

    pub stop : (k : ℕ) → k < n → q (get_or row k 0) ≡ false → k + place_of q (drop k (take n row)) ≡ m → k ≡ m
    unfolding place_of
    stop k h e p = let x : place_of q (drop k (take n row)) ≡ 0 = rw (left k h, e) in omega arith

    pub through : (k : ℕ) → k ≡ n → k + place_of q (drop k (take n row)) ≡ m → n ≡ m
    unfolding place_of
    through k h p = let x : place_of q (drop k (take n row)) ≡ 0 = rw (h, none_left) in omega arith

    pub found_one : (k f : ℕ) → k < n → q (get_or row k 0) ≡ true → f + length (keep q (drop k (take n row))) ≡ m
        → f + 1 + length (keep q (drop (k + 1) (take n row))) ≡ m
    found_one k f h e p =
        let x : length (keep q (drop k (take n row))) ≡ suc (length (keep q (drop (k + 1) (take n row)))) = rw (left k h, e) in
        omega arith

    pub found_none : (k f : ℕ) → k < n → q (get_or row k 0) ≡ false → f + length (keep q (drop k (take n row))) ≡ m
        → f + length (keep q (drop (k + 1) (take n row))) ≡ m
    found_none k f h e p =
        let x : length (keep q (drop k (take n row))) ≡ length (keep q (drop (k + 1) (take n row))) = rw (left k h, e) in
        omega arith

    pub counted_all : (k f : ℕ) → k ≡ n → f + length (keep q (drop k (take n row))) ≡ m → f ≡ m
    counted_all k f h p = let x : length (keep q (drop k (take n row))) ≡ 0 = rw (h, none_left) in omega arith

-- A SHIFT: the row without what stands at the place that moves stays the same.
pub up : (row : List ℕ) (i : ℕ) → 0 < i → i < length row → removed (i - 1) (set row i (get_or row (i - 1) 0)) ≡ removed i row
up row zero p h = absurd (omega arith)
up row (suc j) p h =
    let v : ℕ = get_or row j 0 in
    let l : length (take (suc j) row) ≡ suc j = length-take-le (suc j) row (omega arith) in
    let a : drop (suc j) (set row (suc j) v) ≡ v ∷ drop (suc (suc j)) row =
    ap (drop (suc j)) (set_split row (suc j) v h) ∙ drop_at (take (suc j) row) _ (suc j) l in
    rw (
      sub-one (suc j),
      add-one j,
      take-set-le j row (suc j) v (omega arith),
      a,
      add-one,
      take-suc row j 0 (omega arith),
      append_snoc,
    )

pub down : (row : List ℕ) (i : ℕ) → i + 1 < length row → removed (i + 1) (set row i (get_or row (i + 1) 0)) ≡ removed i row
down row i h =
    let v : ℕ = get_or row (suc i) 0 in
    rw (
      add-one i,
      take-suc-set row i v (omega arith),
      add-one,
      drop-set-lt (suc (suc i)) row i v (omega arith),
      append_snoc,
      ← drop-cons row (suc i) 0 (omega arith),
    )

-- What stands at a place written over is another put in where it stood.
written : (row : List ℕ) (i x : ℕ) → i < length row → set row i x ≡ inserted i x (removed i row)
written row i x h =
    let l : length (take i row) ≡ i = length-take-le i row (omega arith) in
    set_split row i x h ∙ rw (take_at (take i row) (drop (i + 1) row) i l, drop_at (take i row) (drop (i + 1) row) i l, add-one)

-- The end of a shift: up, the new number goes to the place that came free; down, a zero.
module _ (row₀ row : List ℕ) (n at : ℕ) (c : Canon row₀ n) (l : length row ≡ length row₀) where
  pub put_end : (x : ℕ) → at ≤ n → n < length row₀ → removed at row ≡ removed n row₀
      → set row at x ≡ pad (length row₀) (inserted at x (take n row₀))
  put_end x h b e =
      let xs : List ℕ = take n row₀ in
      let lx : length xs ≡ n = counted row₀ n c in
      let ln : length (inserted at x xs) ≡ n + 1 = omega (arith, inserted-length at x xs (omega arith)) in
      let z : List ℕ = replicate (length row₀ - (n + 1)) 0 in
      let k : length row₀ - n ≡ suc (length row₀ - (n + 1)) = omega arith in
      let w : removed at row ≡ xs ++ z =
      e ∙ ap (λ t. xs ++ drop (n + 1) t) (spelled row₀ n c ∙ ap (λ m. xs ++ replicate m 0) k ∙ sym (append_snoc xs 0 z))
      ∙ ap (λ t. xs ++ t) (drop_at (xs ++ 0 ∷ []) z (n + 1) (simp length-append (omega arith))) in
      written row at x (omega arith)
      ∙ rw (w, take-append-le at xs z (omega arith), drop-append-le at xs z (omega arith), append_assoc, ln)

  pub cut_end : at < n → removed (n - 1) row ≡ removed at row₀ → set row (n - 1) 0 ≡ pad (length row₀) (removed at (take n row₀))
  cut_end h e =
      let xs : List ℕ = take n row₀ in
      let lx : length xs ≡ n = counted row₀ n c in
      let ys : List ℕ = removed at xs in
      let ly : length ys ≡ n - 1 = omega (arith, removed-length at xs (omega arith)) in
      let z : List ℕ = replicate (length row₀ - n) 0 in
      let w : removed (n - 1) row ≡ ys ++ z =
      e ∙ ap (removed at) (spelled row₀ n c)
      ∙ rw (take-append-le at xs z (omega arith), drop-append-le (at + 1) xs z (omega arith), append_assoc) in
      let k : length row₀ - (n - 1) ≡ suc (length row₀ - n) = omega (arith, c.room) in
      written row (n - 1) 0 (omega (arith, c.room))
      ∙ rw (w, take_at ys z (n - 1) ly, drop_at ys z (n - 1) ly, ly, k)
