-- Rows of numbers laid one behind the other: what is read and written in the whole, said of the row. Assumes nothing.
use Rattle.std.specs.Prelude.{ℕ, zero, suc, ◌+◌, ◌*◌, ◌<◌, ◌≡◌, refl, List, [], ◌∷◌, ◌++◌, length, get_or, set, take, drop}
use Rattle.std.proofs.Common.{arith, sym, ◌∙◌, ap, append_assoc, length-append, get_or-append-add}
use Rattle.std.proofs.Math.ListN.{get_or-append}
use Rattle.std.proofs.Math.Seq.{take-append_seam, drop-append-add, take-append-add, drop-append_seam}
use Rattle.std.proofs.lemmas.List.{set-append_left}
use Rattle.semantics.specs.Words.{sum, collect}
use Rattle.promises.specs.Laws.{AllOf}

-- One behind the other.
unfoldable pub laid : List (List ℕ) → List ℕ
laid [] = []
laid (x ∷ xs) = x ++ laid xs

-- Each row is as long as its width.
abbrev pub Wide : List (List ℕ) → List ℕ → Type 0
Wide [] [] = Unit {0}
Wide [] (n ∷ ns) = ⊥
Wide (x ∷ xs) [] = ⊥
Wide (x ∷ xs) (n ∷ ns) = (length x ≡ n) × Wide xs ns

pub set-append-add : {A : Type 0} (xs ys : List A) (n : ℕ) (a : A) → set (xs ++ ys) (length xs + n) a ≡ xs ++ set ys n a
set-append-add [] ys n a = let e : 0 + n ≡ n = omega arith in ap (λ j. set ys j a) e
set-append-add (x ∷ xs) ys n a =
    let e : suc (length xs) + n ≡ suc (length xs + n) = omega arith in
    ap (λ j. set (x ∷ (xs ++ ys)) j a) e ∙ ap (λ l. x ∷ l) (set-append-add xs ys n a)

pub laid-length : (xs : List (List ℕ)) (ws : List ℕ) → Wide xs ws → length (laid xs) ≡ sum ws
unfolding laid
laid-length [] [] h = refl
laid-length [] (n ∷ ws) h = absurd h
laid-length (x ∷ xs) [] h = absurd h
laid-length (x ∷ xs) (n ∷ ws) h =
    let a = h.0 in let i = laid-length xs ws h.1 in let b = length-append x (laid xs) in omega arith

-- The number at i of row k.
pub laid_at : (xs : List (List ℕ)) (ws : List ℕ) → Wide xs ws → (k i : ℕ) → i < get_or ws k 0
    → get_or (laid xs) (sum (take k ws) + i) 0 ≡ get_or (get_or xs k []) i 0
unfolding laid
laid_at [] [] h k i l = absurd (omega arith)
laid_at [] (n ∷ ws) h k i l = absurd h
laid_at (x ∷ xs) [] h k i l = absurd h
laid_at (x ∷ xs) (n ∷ ws) h zero i l =
    let a = h.0 in
    let e : 0 + i ≡ i = omega arith in
    ap (λ j. get_or (x ++ laid xs) j 0) e ∙ get_or-append x (laid xs) 0 i (omega arith)
laid_at (x ∷ xs) (n ∷ ws) h (suc k) i l =
    let a = h.0 in
    let e : n + sum (take k ws) + i ≡ length x + (sum (take k ws) + i) = omega arith in
    ap (λ j. get_or (x ++ laid xs) j 0) e ∙ get_or-append-add x (laid xs) (sum (take k ws) + i) 0 ∙ laid_at xs ws h.1 k i l

-- v written there.
pub laid-set : (xs : List (List ℕ)) (ws : List ℕ) → Wide xs ws → (k i v : ℕ) → i < get_or ws k 0
    → set (laid xs) (sum (take k ws) + i) v ≡ laid (set xs k (set (get_or xs k []) i v))
unfolding laid
laid-set [] [] h k i v l = absurd (omega arith)
laid-set [] (n ∷ ws) h k i v l = absurd h
laid-set (x ∷ xs) [] h k i v l = absurd h
laid-set (x ∷ xs) (n ∷ ws) h zero i v l =
    let a = h.0 in
    let e : 0 + i ≡ i = omega arith in
    ap (λ j. set (x ++ laid xs) j v) e ∙ set-append_left x (laid xs) i v (omega arith)
laid-set (x ∷ xs) (n ∷ ws) h (suc k) i v l =
    let a = h.0 in
    let e : n + sum (take k ws) + i ≡ length x + (sum (take k ws) + i) = omega arith in
    ap (λ j. set (x ++ laid xs) j v) e
    ∙ set-append-add x (laid xs) (sum (take k ws) + i) v
    ∙ ap (λ l. x ++ l) (laid-set xs ws h.1 k i v l)

-- Row k, cut out of the whole,
pub laid_part : (xs : List (List ℕ)) (ws : List ℕ) → Wide xs ws → (k : ℕ) → k < length ws
    → take (get_or ws k 0) (drop (sum (take k ws)) (laid xs)) ≡ get_or xs k []
unfolding laid
laid_part [] [] h k l = absurd (omega arith)
laid_part [] (n ∷ ws) h k l = absurd h
laid_part (x ∷ xs) [] h k l = absurd h
laid_part (x ∷ xs) (n ∷ ws) h zero l = ap (λ j. take j (x ++ laid xs)) (sym h.0) ∙ take-append_seam x (laid xs)
laid_part (x ∷ xs) (n ∷ ws) h (suc k) l =
    ap (λ j. take (get_or ws k 0) (drop (j + sum (take k ws)) (x ++ laid xs))) (sym h.0)
    ∙ ap (take (get_or ws k 0)) (drop-append-add x (laid xs) (sum (take k ws)))
    ∙ laid_part xs ws h.1 k (omega arith)

-- and another in its place.
pub laid_replaced : (xs : List (List ℕ)) (ws : List ℕ) → Wide xs ws → (k : ℕ) (ys : List ℕ) → k < length ws
    → take (sum (take k ws)) (laid xs) ++ (ys ++ drop (get_or ws k 0) (drop (sum (take k ws)) (laid xs))) ≡ laid (set xs k ys)
unfolding laid
laid_replaced [] [] h k ys l = absurd (omega arith)
laid_replaced [] (n ∷ ws) h k ys l = absurd h
laid_replaced (x ∷ xs) [] h k ys l = absurd h
laid_replaced (x ∷ xs) (n ∷ ws) h zero ys l =
    ap (λ j. ys ++ drop j (x ++ laid xs)) (sym h.0) ∙ ap (λ r. ys ++ r) (drop-append_seam x (laid xs))
laid_replaced (x ∷ xs) (n ∷ ws) h (suc k) ys l =
    let s : ℕ = sum (take k ws) in
    let w : ℕ = get_or ws k 0 in
    ap (λ j. take (j + s) (x ++ laid xs) ++ (ys ++ drop w (drop (j + s) (x ++ laid xs)))) (sym h.0)
    ∙ rw (take-append-add x (laid xs) s, drop-append-add x (laid xs) s)
    (behind ∙ ap (λ l. x ++ l) (laid_replaced xs ws h.1 k ys (omega arith)))
  where
    behind : (x ++ take (sum (take k ws)) (laid xs)) ++ (ys ++ drop (get_or ws k 0) (drop (sum (take k ws)) (laid xs)))
        ≡ x ++ (take (sum (take k ws)) (laid xs) ++ (ys ++ drop (get_or ws k 0) (drop (sum (take k ws)) (laid xs))))
    behind = append_assoc x _ _

-- EVEN ROWS: each x of xs has a row f x of n numbers.
module _ {A : Type 0} (f : A → List ℕ) (n : ℕ) where
  abbrev pub Even : List A → Type 0
  Even xs = AllOf (λ x. length (f x) ≡ n) xs

  pub even_length : (xs : List A) → Even xs → length (collect f xs) ≡ n * length xs
  even_length [] h = omega arith
  even_length (x ∷ xs) h =
      let a = h.0 in let b = length-append (f x) (collect f xs) in let i = even_length xs h.1 in omega arith

  pub even_at : (xs : List A) → Even xs → (p j : ℕ) (d : A) → p < length xs → j < n
      → get_or (collect f xs) (n * p + j) 0 ≡ get_or (f (get_or xs p d)) j 0
  even_at [] h p j d l m = absurd (omega arith)
  even_at (x ∷ xs) h zero j d l m =
      let a = h.0 in
      let e : n * zero + j ≡ j = omega arith in
      ap (λ i. get_or (f x ++ collect f xs) i 0) e ∙ get_or-append (f x) (collect f xs) 0 j (omega arith)
  even_at (x ∷ xs) h (suc p) j d l m =
      let a = h.0 in
      let e : n * suc p + j ≡ length (f x) + (n * p + j) = omega arith in
      ap (λ i. get_or (f x ++ collect f xs) i 0) e
      ∙ get_or-append-add (f x) (collect f xs) (n * p + j) 0
      ∙ even_at xs h.1 p j d (omega arith) m

  pub even_set : (xs : List A) → Even xs → (p j v : ℕ) (d y : A) → p < length xs → j < n
      → set (f (get_or xs p d)) j v ≡ f y → set (collect f xs) (n * p + j) v ≡ collect f (set xs p y)
  even_set [] h p j v d y l m g = absurd (omega arith)
  even_set (x ∷ xs) h zero j v d y l m g =
      let a = h.0 in
      let e : n * zero + j ≡ j = omega arith in
      ap (λ i. set (f x ++ collect f xs) i v) e
      ∙ set-append_left (f x) (collect f xs) j v (omega arith)
      ∙ ap (λ r. r ++ collect f xs) g
  even_set (x ∷ xs) h (suc p) j v d y l m g =
      let a = h.0 in
      let e : n * suc p + j ≡ length (f x) + (n * p + j) = omega arith in
      ap (λ i. set (f x ++ collect f xs) i v) e
      ∙ set-append-add (f x) (collect f xs) (n * p + j) v
      ∙ ap (λ r. f x ++ r) (even_set xs h.1 p j v d y (omega arith) m g)

  pub even_part : (xs : List A) → Even xs → (p : ℕ) (d : A) → p < length xs
      → take n (drop (n * p) (collect f xs)) ≡ f (get_or xs p d)
  even_part [] h p d l = absurd (omega arith)
  even_part (x ∷ xs) h zero d l =
      let a = h.0 in
      let e : n * zero ≡ 0 = omega arith in
      ap (λ i. take n (drop i (f x ++ collect f xs))) e
      ∙ ap (λ i. take i (f x ++ collect f xs)) (sym a)
      ∙ take-append_seam (f x) (collect f xs)
  even_part (x ∷ xs) h (suc p) d l =
      let a = h.0 in
      let e : n * suc p ≡ length (f x) + n * p = omega arith in
      ap (λ i. take n (drop i (f x ++ collect f xs))) e
      ∙ ap (take n) (drop-append-add (f x) (collect f xs) (n * p))
      ∙ even_part xs h.1 p d (omega arith)

  pub even_replaced : (xs : List A) → Even xs → (p : ℕ) (y : A) → p < length xs
      → take (n * p) (collect f xs) ++ (f y ++ drop n (drop (n * p) (collect f xs))) ≡ collect f (set xs p y)
  even_replaced [] h p y l = absurd (omega arith)
  even_replaced (x ∷ xs) h zero y l =
      let a = h.0 in
      let e : n * zero ≡ 0 = omega arith in
      ap (λ i. take i (f x ++ collect f xs) ++ (f y ++ drop n (drop i (f x ++ collect f xs)))) e
      ∙ ap (λ i. f y ++ drop i (f x ++ collect f xs)) (sym a)
      ∙ ap (λ r. f y ++ r) (drop-append_seam (f x) (collect f xs))
  even_replaced (x ∷ xs) h (suc p) y l =
      let a = h.0 in
      let e : n * suc p ≡ length (f x) + n * p = omega arith in
      ap (λ i. take i (f x ++ collect f xs) ++ (f y ++ drop n (drop i (f x ++ collect f xs)))) e
      ∙ rw (take-append-add (f x) (collect f xs) (n * p), drop-append-add (f x) (collect f xs) (n * p))
      (append_assoc (f x) _ _ ∙ ap (λ r. f x ++ r) (even_replaced xs h.1 p y (omega arith)))
