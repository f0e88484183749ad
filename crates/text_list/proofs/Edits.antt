-- What an edit of the cells leaves: the values after it, and the blank behind them. Assumes nothing.
use Rattle.std.specs.Prelude.{ℕ, suc, ◌+◌, ◌-◌, ◌≤◌, ◌<◌, ◌≡◌, refl, List, [], ◌∷◌, ◌++◌, length, get_or, take, drop, replicate, set}
use Rattle.std.specs.List.{insert, remove, copy_within}
use Rattle.std.proofs.Common.{arith, sym, ap, ◌∙◌, append_assoc, length-append, length-take-le, length-drop, length-set, take-append-drop, subst, take_at, drop_at, drop-drop, drop-set-lt}
use Rattle.std.proofs.lemmas.List.{length-replicate, drop-replicate, replicate-append-replicate, take-append-le, drop-append-le, take-take, take_more_set, set_split, drop_more, set-append_right, replicate_more}
use Rattle.std.proofs.lemmas.List.Edits.{length-insert, length-remove}
use Rattle.std.proofs.lemmas.Slice.{between_is}
use Rattle.std.proofs.Math.Seq.{take-set-lt}
use Rattle.text_list.specs.Cells.{Fine}

-- The values of cells, and that these are fine.
abbrev pub Holds : {T : Type 0} → T → ℕ → List T → ℕ → List T → Type 0
Holds blank n cells size xs = Fine blank n cells size × (take size cells ≡ xs)

module _ {T : Type 0} (blank : T) (n : ℕ) where
  -- Cells that hold these values and then the blank.
  pub held : (cells xs : List T) (size : ℕ) → cells ≡ xs ++ replicate (n - size) blank → length xs ≡ size → size ≤ n
      → Holds blank n cells size xs
  held cells xs size e k f = (
    record {
      fits = f;
      whole = ap length e ∙ length-append xs (replicate (n - size) blank)
          ∙ omega (arith, k, f, length-replicate (n - size) blank);
      rest = ap (drop size) e ∙ drop_at xs (replicate (n - size) blank) size k;
    },
    ap (take size) e ∙ take_at xs (replicate (n - size) blank) size k,
  )

module _ {T : Type 0} {blank : T} {n : ℕ} {cells : List T} {size : ℕ} (h : Fine blank n cells size) where
  -- Behind them all is blank.
  behind : (m : ℕ) → size ≤ m → drop m cells ≡ replicate (n - m) blank
  behind m l =
      ap (λ k. drop k cells) (omega (arith, l)) ∙ sym (drop-drop (m - size) size cells)
      ∙ ap (drop (m - size)) h.rest ∙ drop-replicate (m - size) (n - size) blank
      ∙ ap (λ k. replicate k blank) (omega (arith, l))

  long : length (take size cells) ≡ size
  long = length-take-le size cells (omega (arith, h.fits, h.whole))

  set_cells : (i : ℕ) (x : T) → i < size → Holds blank n (set cells i x) size (set (take size cells) i x)
  set_cells i x l = (
    record {
      fits = h.fits;
      whole = length-set cells i x ∙ h.whole;
      rest = drop-set-lt size cells i x l ∙ h.rest;
    },
    take-set-lt size cells i x l,
  )

  push_cells : (x : T) → size < n → Holds blank n (set cells size x) (size + 1) (take size cells ++ x ∷ [])
  push_cells x l = (
    record {
      fits = omega (arith, l);
      whole = length-set cells size x ∙ h.whole;
      rest = drop-set-lt (size + 1) cells size x (omega arith) ∙ behind (size + 1) (omega arith);
    },
    take_more_set cells size x (omega (arith, l, h.whole)),
  )

  set_all_cells : (i : ℕ) (vs : List T) → i + length vs ≤ size
      → Holds blank n (take i cells ++ vs ++ drop (i + length vs) cells) size
      (take i (take size cells) ++ vs ++ drop (i + length vs) (take size cells))
  set_all_cells i vs l =
      let xs = take size cells in
      let bs = replicate (n - size) blank in
      let k = i + length vs in
      let e : cells ≡ xs ++ bs = sym (take-append-drop size cells) ∙ ap (λ ys. xs ++ ys) h.rest in
      let f : take i cells ≡ take i xs = ap (take i) e ∙ take-append-le i xs bs (omega (arith, l, long)) in
      let b : drop k cells ≡ drop k xs ++ bs = ap (drop k) e ∙ drop-append-le k xs bs (omega (arith, l, long)) in
      held blank n _ (take i xs ++ vs ++ drop k xs) size
      (ap (λ ys. ys ++ vs ++ drop k cells) f ∙ ap (λ ys. take i xs ++ vs ++ ys) b
      ∙ sym (append_assoc (take i xs ++ vs) (drop k xs) bs))
      (length-append (take i xs ++ vs) (drop k xs)
      ∙ omega (arith, length-append (take i xs) vs, length-drop k xs, long, l, length-take-le i xs (omega (arith, l, long))))
      h.fits

  extend_cells : (vs : List T) → size + length vs ≤ n
      → Holds blank n (take size cells ++ vs ++ drop (size + length vs) cells) (size + length vs) (take size cells ++ vs)
  extend_cells vs l =
      let xs = take size cells in
      let k = size + length vs in
      held blank n _ (xs ++ vs) k
      (ap (λ ys. xs ++ vs ++ ys) (behind k (omega arith)))
      (length-append xs vs ∙ omega (arith, long)) l

  insert_cells : (i : ℕ) (x : T) → i ≤ size → size < n
      → Holds blank n (insert (take size cells) i x ++ drop (size + 1) cells) (size + 1) (insert (take size cells) i x)
  insert_cells i x b l =
      let xs = take size cells in
      held blank n _ (insert xs i x) (size + 1)
      (ap (λ ys. insert xs i x ++ ys) (behind (size + 1) (omega arith)))
      (length-insert xs i x (omega (arith, b, long)) ∙ omega (arith, long)) (omega (arith, l))

  remove_cells : (i : ℕ) → i < size
      → Holds blank n (remove (take size cells) i ++ blank ∷ drop size cells) (size - 1) (remove (take size cells) i)
  remove_cells i l =
      let xs = take size cells in
      let e : n - (size - 1) ≡ suc (n - size) = omega (arith, l, h.fits) in
      held blank n _ (remove xs i) (size - 1)
      (ap (λ ys. remove xs i ++ blank ∷ ys) h.rest ∙ ap (λ k. remove xs i ++ replicate k blank) (sym e))
      (omega (arith, long, l, length-remove xs i (omega (arith, l, long)))) (omega (arith, h.fits))

  clear_cells : Holds blank n (replicate size blank ++ drop size cells) 0 []
  clear_cells =
      held blank n _ [] 0
      (ap (λ ys. replicate size blank ++ ys) h.rest ∙ replicate-append-replicate size (n - size) blank
      ∙ ap (λ k. replicate k blank) (omega (arith, h.fits)))
      refl (omega arith)

many : {T : Type 0} {blank : T} {n : ℕ} {cells : List T} {size : ℕ} → Fine blank n cells size → {xs : List T}
    → take size cells ≡ xs
    → length xs ≡ size
many h v = sym (ap length v) ∙ long h

-- .. and what each method makes of the values xs, whose cells become `new`.
module _ {T : Type 0} {blank : T} {n : ℕ} {cells : List T} {size : ℕ} (h : Fine blank n cells size) {xs : List T}
    (v : take size cells ≡ xs) {new : List T} where
  over : (f : List T → List T) {ys : List T} {m : ℕ} → new ≡ ys → Holds blank n ys m (f (take size cells)) → Holds blank n new m (f xs)
  over f {m = m} e k = (subst (λ zs. Fine blank n zs m) (sym e) k.0, ap (take m) e ∙ k.1 ∙ ap f v)

  pub set_held : (i : ℕ) (x : T) → new ≡ set cells i x → i < length xs → Holds blank n new size (set xs i x)
  set_held i x e l = over (λ ys. set ys i x) e (set_cells h i x (omega (arith, l, many h v)))

  pub push_held : (x : T) → new ≡ set cells size x → length xs < n → Holds blank n new (size + 1) (xs ++ x ∷ [])
  push_held x e l = over (λ ys. ys ++ x ∷ []) e (push_cells h x (omega (arith, l, many h v)))

  pub set_all_held : (i : ℕ) (vs : List T) → new ≡ take i cells ++ vs ++ drop (i + length vs) cells → i + length vs ≤ length xs
      → Holds blank n new size (take i xs ++ vs ++ drop (i + length vs) xs)
  set_all_held i vs e l =
      over (λ ys. take i ys ++ vs ++ drop (i + length vs) ys) e (set_all_cells h i vs (omega (arith, l, many h v)))

  pub extend_held : (vs : List T) → new ≡ take size cells ++ vs ++ drop (size + length vs) cells → length xs + length vs ≤ n
      → Holds blank n new (size + length vs) (xs ++ vs)
  extend_held vs e l = over (λ ys. ys ++ vs) e (extend_cells h vs (omega (arith, l, many h v)))

  pub insert_held : (i : ℕ) (x : T) → new ≡ insert (take size cells) i x ++ drop (size + 1) cells → i ≤ length xs → length xs < n
      → Holds blank n new (size + 1) (insert xs i x)
  insert_held i x e b l = over (λ ys. insert ys i x) e (insert_cells h i x (omega (arith, b, many h v)) (omega (arith, l, many h v)))

  pub remove_held : (i : ℕ) → new ≡ remove (take size cells) i ++ blank ∷ drop size cells → i < length xs
      → Holds blank n new (size - 1) (remove xs i)
  remove_held i e l = over (λ ys. remove ys i) e (remove_cells h i (omega (arith, l, many h v)))

  pub clear_held : new ≡ replicate size blank ++ drop size cells → Holds blank n new 0 []
  clear_held e = over (λ ys. []) e (clear_cells h)

-- One cell more holds the blank.
pub blanked : {T : Type 0} (blank : T) (old : List T) {cells : List T} (i : ℕ) → cells ≡ replicate i blank ++ drop i old → i < length old
    → set cells i blank ≡ replicate (i + 1) blank ++ drop (i + 1) old
blanked blank old {cells} i e l =
    let k = length-replicate i blank in
    let z : i - i ≡ 0 = omega arith in
    ap (λ xs. set xs i blank) (e ∙ ap (λ ys. replicate i blank ++ ys) (drop_more old i blank l))
    ∙ set-append_right (replicate i blank) _ i i blank k (omega arith)
    ∙ ap (λ j. replicate i blank ++ set (get_or old i blank ∷ drop (i + 1) old) j blank) z
    ∙ sym (append_assoc (replicate i blank) (blank ∷ []) (drop (i + 1) old))
    ∙ ap (λ ys. ys ++ drop (i + 1) old) (replicate_more i blank)

-- ---- the cells alone

module _ {T : Type 0} (cells : List T) (size i : ℕ) where
  pub moved_up : (x : T) → i ≤ size → size < length cells
      → set (copy_within cells i size (i + 1)) i x ≡ insert (take size cells) i x ++ drop (size + 1) cells
  moved_up x b l =
      let front = take (i + 1) cells in
      let middle = take (size - i) (drop i cells) in
      let behind = drop (i + 1 + (size - i)) cells in
      let rest = middle ++ behind in
      let k : length front ≡ suc i = length-take-le (i + 1) cells (omega (arith, b, l)) ∙ omega arith in
      let e : i + 1 + (size - i) ≡ size + 1 = omega (arith, b) in
      ap (λ ys. set ys i x) (append_assoc front middle behind)
      ∙ set_split (front ++ rest) i x (omega (arith, k, length-append front rest))
      ∙ ap (λ ys. ys ++ x ∷ drop (suc i) (front ++ rest))
      (take-append-le i front rest (omega (arith, k)) ∙ take-take i (i + 1) cells (omega arith) ∙ sym (take-take i size cells b))
      ∙ ap (λ ys. take i (take size cells) ++ x ∷ ys) (drop_at front rest (suc i) k)
      ∙ ap (λ ys. take i (take size cells) ++ x ∷ (ys ++ drop (i + 1 + (size - i)) cells)) (between_is cells i size)
      ∙ ap (λ m. take i (take size cells) ++ x ∷ (drop i (take size cells) ++ drop m cells)) e
      ∙ sym (append_assoc (take i (take size cells)) (x ∷ drop i (take size cells)) (drop (size + 1) cells))

  pub moved_down : (x : T) → i < size → size ≤ length cells
      → set (copy_within cells (i + 1) size i) (size - 1) x ≡ remove (take size cells) i ++ x ∷ drop size cells
  moved_down x b l =
      let middle = take (size - (i + 1)) (drop (i + 1) cells) in
      let front = take i cells ++ middle in
      let at = i + (size - (i + 1)) in
      let rest = drop at cells in
      let e : at ≡ size - 1 = omega (arith, b) in
      let m : length middle ≡ size - (i + 1) = length-take-le (size - (i + 1)) (drop (i + 1) cells) (omega (arith, b, l, length-drop (i + 1) cells)) in
      let k : length front ≡ size - 1 =
      length-append (take i cells) middle ∙ omega (arith, m, b, length-take-le i cells (omega (arith, b, l))) in
      let s : suc (size - 1) ≡ length front + 1 = omega (arith, k) in
      let u : i + 1 ≡ suc i = omega arith in
      let t : at + 1 ≡ size = omega (arith, e, b) in
      set_split (front ++ rest) (size - 1) x
      (omega (arith, k, length-append front rest, length-drop at cells, e, b, l))
      ∙ ap (λ ys. ys ++ x ∷ drop (suc (size - 1)) (front ++ rest)) (take_at front rest (size - 1) k)
      ∙ ap (λ ys. front ++ x ∷ ys)
      (ap (λ j. drop j (front ++ rest)) s ∙ sym (drop-drop 1 (length front) (front ++ rest))
      ∙ ap (drop 1) (drop_at front rest (length front) refl) ∙ drop-drop 1 at cells ∙ ap (λ j. drop j cells) t)
      ∙ ap (λ ys. (ys ++ middle) ++ x ∷ drop size cells) (sym (take-take i size cells (omega (arith, b))))
      ∙ ap (λ ys. (take i (take size cells) ++ ys) ++ x ∷ drop size cells)
      (between_is cells (i + 1) size ∙ ap (λ j. drop j (take size cells)) u)
