-- What the arrays say is what the model says: the depth that the code finds is the model's.
-- Assumes nothing.
use Prim.Native.Nat.{ℕ, zero, suc, ◌+◌, ◌-◌, ◌≤◌, ◌<◌}
use mathlib.Core.Path.{◌≡◌, refl, ◌∙◌, ap}
use mathlib.Core.List.{List, [], ◌∷◌, ◌++◌, map}
use mathlib.Core.Option.{some}
use native.Mathlib.Omega.{arith}
use native.Mathlib.Numerals.{unary_clauses}
use lib.ListN.{length, get_or, get_elem?}
use lib.Seq.{slice, slice-cons, slice_empty}
use Rattle.semantics.specs.Words.{collect, largest}
use Rattle.semantics.specs.Model.{Action, Model, block}
use Rattle.semantics.specs.Decode as decode
use Rattle.semantics.specs.Decode.{inner, depth}
use Rattle.promises.specs.Laws.{AllOf, all_append}
use Rattle.file_depth.specs.Deep.{depth_in, depth_of, names_in, Laid, Later, Graph}
use Rattle.file_depth.proofs.Laws.{map_same, agree_later, from_rises}

module _ (m : Model) (names : ℕ → List ℕ) (same : (b : ℕ) → b < length m.blocks → names b ≡ collect inner (block m b))
    (later : Later names (length m.blocks)) where
  same_in : (d b : ℕ) → b < length m.blocks → depth_in names d b ≡ decode.depth_in m d b
  unfolding depth_in decode.depth_in
  same_in zero b l = refl
  same_in (suc d) b l =
      ap (λ (xs : List ℕ). suc (largest xs))
      (map_same (depth_in names d) (decode.depth_in m d) (names b)
      (agree_later b _ (depth_in names d) (decode.depth_in m d) (names b) (λ x p q. same_in d x q) (later b l))
      ∙ ap (map (decode.depth_in m d)) (same b l))

  pub depth_is : (b : ℕ) → b < length m.blocks → depth_of names (length m.blocks) b ≡ depth m b
  unfolding depth_of depth
  depth_is b l = same_in (length m.blocks - b) b l

-- Two slices that meet.
slice_join : (l : List ℕ) (j f t u : ℕ) → f + j ≡ t → t ≤ u → u ≤ length l → slice f u l ≡ slice f t l ++ slice t u l
slice_join l zero f t u e h r = let z : f ≡ t = omega arith in rw (z, slice_empty t l)
slice_join l (suc j) f t u e h r =
    rw (
      slice-cons f u l 0 (omega arith) r,
      slice-cons f t l 0 (omega arith) (omega arith),
      slice_join l j (suc f) t u (omega arith) h r,
    )

-- Each is so of what f gives of each, so it is of what f gives of all.
pub all_collect : {A : Type 0} (P : ℕ → Type 0) (f : A → List ℕ) (xs : List A) → AllOf (λ x. AllOf P (f x)) xs →
    AllOf P (collect f xs)
all_collect P f [] h = tt
all_collect P f (x ∷ xs) h = all_append P (f x) (collect f xs) h.0 (all_collect P f xs h.1)

-- The actions xs, numbered from a up to t, go where f says, so their parts of `goes` make up what f says of all.
joined : (first from goes : List ℕ) (n : ℕ) → Laid first from goes n → (f : Action → List ℕ) (xs : List Action) (a t : ℕ) →
    a + length xs ≡ t → t ≤ get_or first n 0 →
    ((i : ℕ) (x : Action) → get_elem? xs i ≡ some x → slice (get_or from (a + i) 0) (get_or from (a + i + 1) 0) goes ≡ f x) →
    slice (get_or from a 0) (get_or from t 0) goes ≡ collect f xs
joined first from goes n s f [] a t e h g = let z : a ≡ t = omega arith in rw z (slice_empty (get_or from t 0) goes)
joined first from goes n s f (x ∷ xs) a t e h g =
    let rises = from_rises first from goes n s in
    let here : slice (get_or from a 0) (get_or from (suc a) 0) goes ≡ f x = simp unary_clauses at (g 0 x refl) in
    slice_join goes (get_or from (suc a) 0 - get_or from a 0) (get_or from a 0) (get_or from (suc a) 0) (get_or from t 0)
    (omega (arith, rises 1 a (suc a) (omega arith) (omega arith))) (rises (length xs) (suc a) t (omega arith) h)
    (omega (arith, s.room, s.stops t h))
    ∙ rw (
      here,
      joined first from goes n s f xs (suc a) t (omega arith) h (λ i y q.
          let z : a + suc i ≡ suc a + i = omega arith in rw z at (g (suc i) y q)),
    )

-- THE ARRAYS of a model: the i-th action of block b is numbered as many as stand before the block, and i, and goes where f says.
-- For the depth f is `inner`; for the weight it has what a START starts, too.
module _ (m : Model) (first from goes : List ℕ) (s : Laid first from goes (length m.blocks)) (f : Action → List ℕ)
    (counts : (b : ℕ) → b < length m.blocks → get_or first b 0 + length (block m b) ≡ get_or first (b + 1) 0)
    (each : (b : ℕ) → b < length m.blocks → (i : ℕ) (x : Action) → get_elem? (block m b) i ≡ some x →
    slice (get_or from (get_or first b 0 + i) 0) (get_or from (get_or first b 0 + i + 1) 0) goes ≡ f x) where
  pub names_are : (b : ℕ) → b < length m.blocks → names_in first from goes b ≡ collect f (block m b)
  names_are b l =
      joined first from goes (length m.blocks) s f (block m b) (get_or first b 0) (get_or first (b + 1) 0)
      (counts b l) (s.ends b l) (each b l)

  pub graph_is : ((b : ℕ) → AllOf (λ x. AllOf (λ k. (b < k) × (k < length m.blocks)) (f x)) (block m b)) →
      Graph first from goes (length m.blocks)
  graph_is later = record {
    laid = s;
    later = λ b l. rw (names_are b l) (all_collect (λ k. (b < k) × (k < length m.blocks)) f (block m b) (later b));
  }
