-- Running counts, and the parts that they cut of a list that is put together. Assumes nothing.
use mathlib.Core.Path.{◌≡◌, refl, sym, ◌∙◌, ap}
use mathlib.Core.List.{List, [], ◌∷◌, ◌++◌, map, append_assoc}
use mathlib.Core.Option.{some}
use Prim.Native.Nat.{ℕ, zero, suc, ◌+◌, ◌-◌, ◌≤◌, ◌<◌}
use native.Mathlib.Omega.{arith}
use native.Mathlib.Numerals.{add-one}
use lib.ListN.{length, get_or, take, drop, replicate, get_elem?, length-append}
use lib.Seq.{slice, slice-cons, slice_empty, take-append-add, drop-append-add, take-take}
use Rattle.semantics.specs.Words.{collect}
use Rattle.promises.specs.Laws.{not_some, over}
use Rattle.file_index.specs.Index.{pad, runs}

-- What is not used is 0.
pub pad_at : (n : ℕ) (xs : List ℕ) (i : ℕ) → get_or (pad n xs) i 0 ≡ get_or xs i 0
pad_at n xs i = go xs i
  where
    none_at : (k i : ℕ) → get_or {A = ℕ} (replicate k 0) i 0 ≡ 0
    none_at zero i = refl
    none_at (suc k) zero = refl
    none_at (suc k) (suc i) = none_at k i

    go : (ys : List ℕ) (i : ℕ) → get_or (ys ++ replicate (n - length xs) 0) i 0 ≡ get_or ys i 0
    go [] i = none_at (n - length xs) i
    go (y ∷ ys) zero = refl
    go (y ∷ ys) (suc i) = go ys i

module _ {A : Type 0} where
  -- ELEMENTS.
  pub map-some : {B : Type 0} (f : A → B) (xs : List A) (i : ℕ) (y : B) → get_elem? (map f xs) i ≡ some y →
      (x : A) × (get_elem? xs i ≡ some x) × (f x ≡ y)
  map-some f [] i y e = not_some e
  map-some f (x ∷ xs) zero y e = (x, refl, cc)
  map-some f (x ∷ xs) (suc i) y e = map-some f xs i y e

  pub some-map : {B : Type 0} (f : A → B) (xs : List A) (i : ℕ) (x : A) → get_elem? xs i ≡ some x →
      get_elem? (map f xs) i ≡ some (f x)
  some-map f [] i x e = not_some e
  some-map f (y ∷ ys) zero x e = let z : y ≡ x = cc in rw z
  some-map f (y ∷ ys) (suc i) x e = some-map f ys i x e

  pub some_at : (xs : List A) (i : ℕ) (x d : A) → get_elem? xs i ≡ some x → get_or xs i d ≡ x
  some_at [] i x d e = not_some e
  some_at (y ∷ ys) zero x d e = cc
  some_at (y ∷ ys) (suc i) x d e = some_at ys i x d e

  pub some-slice : (xs : List A) (i : ℕ) (x : A) → get_elem? xs i ≡ some x → slice i (suc i) xs ≡ x ∷ []
  some-slice [] i x e = not_some e
  some-slice (y ∷ ys) zero x e = let z : y ≡ x = cc in rw z
  some-slice (y ∷ ys) (suc i) x e = some-slice ys i x e

  some_left : (xs ys : List A) (i : ℕ) (x : A) → get_elem? xs i ≡ some x → get_elem? (xs ++ ys) i ≡ some x
  some_left [] ys i x e = not_some e
  some_left (y ∷ xs) ys zero x e = e
  some_left (y ∷ xs) ys (suc i) x e = some_left xs ys i x e

  some_right : (xs ys : List A) (i : ℕ) → get_elem? (xs ++ ys) (length xs + i) ≡ get_elem? ys i
  some_right [] ys i = let z : 0 + i ≡ i = omega arith in rw z
  some_right (x ∷ xs) ys i = let z : suc (length xs) + i ≡ suc (length xs + i) = omega arith in rw z (some_right xs ys i)

  pub some_in_some : (xs : List (List A)) (b i : ℕ) (x : A) → get_elem? (get_or xs b []) i ≡ some x → b < length xs
  some_in_some [] b i x e = not_some e
  some_in_some (y ∷ ys) zero i x e = omega arith
  some_in_some (y ∷ ys) (suc b) i x e = omega (arith, some_in_some ys b i x e)

  pub slice_one : (xs : List A) (i : ℕ) (d : A) → i < length xs → slice i (suc i) xs ≡ get_or xs i d ∷ []
  slice_one xs i d h = slice-cons i (suc i) xs d (omega arith) h ∙ ap (λ l. get_or xs i d ∷ l) (slice_empty (suc i) xs)

  pub slice-map : {B : Type 0} (f : A → B) (i j : ℕ) (xs : List A) → slice i j (map f xs) ≡ map f (slice i j xs)
  slice-map f zero zero xs = refl
  slice-map f (suc i) zero xs = refl
  slice-map f zero (suc j) [] = refl
  slice-map f (suc i) (suc j) [] = refl
  slice-map f zero (suc j) (x ∷ xs) = ap (λ l. f x ∷ l) (slice-map f zero j xs)
  slice-map f (suc i) (suc j) (x ∷ xs) = slice-map f i j xs

  pub collect-map : {B : Type 0} (f : A → List B) (xs : List A) → collect f xs ≡ collect (λ l. l) (map f xs)
  collect-map f [] = refl
  collect-map f (x ∷ xs) = ap (λ l. f x ++ l) (collect-map f xs)

  pub runs_map : {B : Type 0} (g : B → ℕ) (f : A → B) (n : ℕ) (xs : List A) → runs (λ x. g (f x)) n xs ≡ runs g n (map f xs)
  unfolding runs
  runs_map g f n [] = refl
  runs_map g f n (x ∷ xs) = ap (λ l. n ∷ l) (runs_map g f (n + g (f x)) xs)

module _ {A : Type 0} where
  -- RUNNING COUNTS.
  pub runs-over : (f : A → ℕ) (n : ℕ) (xs : List A) (i : ℕ) → i ≤ length xs → get_or (runs f n xs) i 0 ≡ n + over f (take i xs)
  unfolding runs
  runs-over f n [] zero h = omega arith
  runs-over f n [] (suc i) h = absurd (omega arith)
  runs-over f n (x ∷ xs) zero h = omega arith
  runs-over f n (x ∷ xs) (suc i) h = omega (arith, runs-over f (n + f x) xs i (omega arith))

  pub runs_past : (f : A → ℕ) (n : ℕ) (xs : List A) (i : ℕ) → length xs < i → get_or (runs f n xs) i 0 ≡ 0
  unfolding runs
  runs_past f n [] zero h = absurd (omega arith)
  runs_past f n [] (suc i) h = refl
  runs_past f n (x ∷ xs) zero h = absurd (omega arith)
  runs_past f n (x ∷ xs) (suc i) h = runs_past f (n + f x) xs i (omega arith)

  pub over_next : (f : A → ℕ) (d : A) (xs : List A) (i : ℕ) → i < length xs →
      over f (take (i + 1) xs) ≡ over f (take i xs) + f (get_or xs i d)
  over_next f d [] i h = absurd (omega arith)
  over_next f d (x ∷ xs) zero h = omega arith
  over_next f d (x ∷ xs) (suc i) h =
      let ih = over_next f d xs i (omega arith) in
      rw (add-one (suc i)) (omega (arith, rw (add-one i) at ih))

  pub over_part : (f : A → ℕ) (xs : List A) (i : ℕ) → over f (take i xs) ≤ over f xs
  over_part f xs zero = omega arith
  over_part f [] (suc i) = omega arith
  over_part f (x ∷ xs) (suc i) = omega (arith, over_part f xs i)

  -- A LIST PUT TOGETHER of the lists f x.
  module _ {B : Type 0} (f : A → List B) where
    abbrev sizes : A → ℕ
    sizes x = length (f x)

    pub collect-length : (xs : List A) → length (collect f xs) ≡ over sizes xs
    collect-length [] = refl
    collect-length (x ∷ xs) = omega (arith, length-append (f x) (collect f xs), collect-length xs)

    pub collect-some : (d : A) → f d ≡ [] → (xs : List A) (b i : ℕ) (y : B) → get_elem? (f (get_or xs b d)) i ≡ some y →
        get_elem? (collect f xs) (over sizes (take b xs) + i) ≡ some y
    collect-some d h [] b i y e = not_some (rw h at e)
    collect-some d h (x ∷ xs) zero i y e =
        let z : 0 + i ≡ i = omega arith in rw z (some_left (f x) (collect f xs) i y e)
    collect-some d h (x ∷ xs) (suc b) i y e =
        let j : ℕ = over sizes (take b xs) + i in
        let z : sizes x + over sizes (take b xs) + i ≡ sizes x + j = omega arith in
        rw z (some_right (f x) (collect f xs) j ∙ collect-some d h xs b i y e)

    take-collect : (xs : List A) (zs : List B) (j : ℕ) →
        take (over sizes (take j xs)) (collect f xs ++ zs) ≡ collect f (take j xs)
    take-collect [] zs zero = refl
    take-collect [] zs (suc j) = refl
    take-collect (x ∷ xs) zs zero = refl
    take-collect (x ∷ xs) zs (suc j) =
        rw (append_assoc (f x) (collect f xs) zs)
        (take-append-add (f x) (collect f xs ++ zs) (over sizes (take j xs)) ∙ ap (λ l. f x ++ l) (take-collect xs zs j))

    drop-collect : (xs : List A) (i : ℕ) → drop (over sizes (take i xs)) (collect f xs) ≡ collect f (drop i xs)
    drop-collect xs zero = refl
    drop-collect [] (suc i) = refl
    drop-collect (x ∷ xs) (suc i) =
        drop-append-add (f x) (collect f xs) (over sizes (take i xs)) ∙ drop-collect xs i

    -- what lies from the i-th up to the j-th
    pub slice-collect : (xs : List A) (zs : List B) (i j : ℕ) → i ≤ j →
        slice (over sizes (take i xs)) (over sizes (take j xs)) (collect f xs ++ zs) ≡ collect f (slice i j xs)
    slice-collect xs zs i j h =
        ap (drop (over sizes (take i xs))) (take-collect xs zs j)
        ∙ ap (λ l. drop (over sizes l) (collect f (take j xs))) (sym (take-take i j xs h))
        ∙ drop-collect (take j xs) i
