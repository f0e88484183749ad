-- Depth, and what a memo becomes, by recursion over the blocks named; the arrays; and what a memo knows.
-- Assumes nothing.
use Rattle.std.specs.Prelude.{if◌then◌else◌}
use Prim.Native.Nat.{ℕ, zero, suc, ◌+◌, ◌-◌, ◌≤◌, ◌<◌}
use mathlib.Core.Path.{◌≡◌, refl, ◌∙◌, ap, fun_ext}
use mathlib.Core.List.{List, [], ◌∷◌, map}
use mathlib.Core.Bool.{Bool, true, false}
use native.Mathlib.Omega.{arith}
use native.Mathlib.Numerals.{add-one}
use borrow.Author.Tests.{eqb-true, eqb-false, eq-eqb, ne_eqb}
use lib.Dec.{eqb}
use lib.ListN.{length, take, get_or, set, length-set, replicate, length-replicate, get_or-replicate}
use lib.Seq.{slice, slice-cons, slice_empty, length-slice, get_or-take, get_or-drop, get_or-set_same, get_or-set_other}
use Rattle.semantics.specs.Words.{largest}
use Rattle.promises.specs.Laws.{AllOf, all_map}
use Rattle.base_numbers.specs.Limit as Limit
use Rattle.file_depth.specs.Deep.{depth_in, depth_of, start_of, Laid, Later, Graph, Known}
use Rattle.file_depth.specs.Deep.{measured_all, measured_in, measured}
use Rattle.file_depth.proofs.Fuel.{at_distance}

-- LISTS.
pub map_same : {A : Type 0} (p q : A → ℕ) (xs : List A) → AllOf (λ x. p x ≡ q x) xs → map p xs ≡ map q xs
map_same p q [] h = refl
map_same p q (x ∷ xs) h = rw (h.0, map_same p q xs h.1)

same_all : (p q : ℕ → List ℕ → List ℕ) (xs : List ℕ) → AllOf (λ x. p x ≡ q x) xs → (memo : List ℕ) →
    measured_all p xs memo ≡ measured_all q xs memo
same_all p q [] h memo = refl
same_all p q (x ∷ xs) h memo = rw h.0 (same_all p q xs h.1 (q x memo))

-- What agrees on later blocks agrees on each of xs, which are later.
pub agree_later : {A : Type 0} (b n : ℕ) (p q : ℕ → A) (xs : List ℕ) → ((x : ℕ) → b < x → x < n → p x ≡ q x) →
    AllOf (λ x. (b < x) × (x < n)) xs → AllOf (λ x. p x ≡ q x) xs
agree_later b n p q xs f h = all_map (λ x. (b < x) × (x < n)) (λ x. p x ≡ q x) (λ x w. f x w.0 w.1) xs h

largest-le : (p : ℕ → ℕ) (m : ℕ) (xs : List ℕ) → ((x : ℕ) → p x ≤ m) → largest (map p xs) ≤ m
largest-le p m [] h = omega arith
largest-le p m (x ∷ xs) h = omega (arith, h x, largest-le p m xs h)

pub nth : (P : ℕ → Type 0) (xs : List ℕ) (i : ℕ) → i < length xs → AllOf P xs → P (get_or xs i 0)
nth P [] i l h = absurd (omega arith)
nth P (x ∷ xs) zero l h = h.0
nth P (x ∷ xs) (suc i) l h = nth P xs i (omega arith) h.1

-- What holds of each of a slice holds at each place of it, and the other way round. The slice has j elements from k on.
module _ (P : ℕ → Type 0) (l : List ℕ) (t : ℕ) (r : t ≤ length l) where
  slice_at : (k i : ℕ) → k ≤ i → i < t → AllOf P (slice k t l) → P (get_or l i 0)
  slice_at k i p q h =
      let e : k + (i - k) ≡ i = omega arith in
      let at : get_or (slice k t l) (i - k) 0 ≡ get_or l i 0 =
      get_or-drop k (take t l) (i - k) 0 ∙ rw e (get_or-take t l i 0 q) in
      rw (← at) (nth P (slice k t l) (i - k) (omega (arith, length-slice k t l r)) h)

  pub all_slice : (j k : ℕ) → k + j ≡ t → ((i : ℕ) → k ≤ i → i < t → P (get_or l i 0)) → AllOf P (slice k t l)
  all_slice zero k e f = let z : k ≡ t = omega arith in rw (z, slice_empty t l) tt
  all_slice (suc j) k e f =
      rw (slice-cons k t l 0 (omega arith) r)
      (f k (omega arith) (omega arith), all_slice j (suc k) (omega arith) (λ i p q. f i (omega arith) q))

-- DEPTH, and the memo. A depth is at most its fuel.
depth_le : (names : ℕ → List ℕ) (f b : ℕ) → depth_in names f b ≤ f
unfolding depth_in
depth_le names zero b = omega arith
depth_le names (suc f) b = omega (arith, largest-le (depth_in names f) f (names b) (depth_le names f))

pub depth_small : (names : ℕ → List ℕ) (n b : ℕ) → depth_of names n b ≤ n - b
unfolding depth_of
depth_small names n b = depth_le names (n - b) b

module _ (names : ℕ → List ℕ) (n : ℕ) (later : Later names n) where
  pub depth_step : (b : ℕ) → b < n → depth_of names n b ≡ suc (largest (map (depth_of names n) (names b)))
  unfolding depth_of depth_in
  depth_step =
      at_distance n (depth_in names) (λ p b. suc (largest (map p (names b)))) (λ d b. refl) λ p q b l f.
      ap (λ (xs : List ℕ). suc (largest xs))
      (map_same p q (names b) (agree_later b n p q (names b) f (later b l)))

  -- What the memo becomes where b is not yet known, and where it is.
  pub measured_step : (value : ℕ → ℕ) (b : ℕ) → b < n → (memo : List ℕ) → get_or memo b 0 ≡ 0 →
      measured names value n b memo ≡ set (measured_all (measured names value n) (names b) memo) b (value b)
  unfolding measured measured_in
  measured_step value b l memo z =
      ap (λ (f : List ℕ → List ℕ). f memo)
      (at_distance n (measured_in names value)
      (λ p b memo. if eqb (get_or memo b 0) 0 then set (measured_all p (names b) memo) b (value b) else memo) (λ d b. refl)
      (λ p q b l f. fun_ext λ memo. rw (same_all p q (names b) (agree_later b n p q (names b) f (later b l)) memo)) b l)
      ∙ rw (eq-eqb (get_or memo b 0) 0 z)

pub measured_known : (names : ℕ → List ℕ) (value : ℕ → ℕ) (n b : ℕ) (memo : List ℕ) → (get_or memo b 0 ≡ 0 → ⊥) →
    measured names value n b memo ≡ memo
unfolding measured
measured_known names value n b memo z = go (n - b)
  where
    go : (d : ℕ) → measured_in names value d b memo ≡ memo
    go zero = refl
    go (suc d) = rw (ne_eqb (get_or memo b 0) 0 z)

-- THE ARRAYS.
module _ (first from goes : List ℕ) (n : ℕ) (s : Laid first from goes n) where
  -- `from` rises over any number of actions.
  pub from_rises : (j a t : ℕ) → a + j ≡ t → t ≤ get_or first n 0 → get_or from a 0 ≤ get_or from t 0
  from_rises zero a t e h = let z : a ≡ t = omega arith in rw z (omega arith)
  from_rises (suc j) a t e h =
      let one : get_or from a 0 ≤ get_or from (suc a) 0 = rw add-one at (s.climbs a (omega arith)) in
      omega (arith, one, from_rises j (suc a) t (omega arith) h)

  pub starts_rise : (b : ℕ) → b < n → start_of first from b ≤ start_of first from (b + 1)
  starts_rise b l =
      from_rises (get_or first (b + 1) 0 - get_or first b 0) (get_or first b 0) (get_or first (b + 1) 0)
      (omega (arith, s.rises b l)) (s.ends b l)

  pub starts_stop : (b : ℕ) → b < n → start_of first from (b + 1) ≤ Limit.BRANCHES
  starts_stop b l = s.stops (get_or first (b + 1) 0) (s.ends b l)

module _ (first from goes : List ℕ) (n : ℕ) (g : Graph first from goes n) (b : ℕ) (l : b < n) where
  -- The block named at place k.
  pub named_later : (k : ℕ) → start_of first from b ≤ k → k < start_of first from (b + 1) →
      (b < get_or goes k 0) × (get_or goes k 0 < n)
  named_later k p q =
      slice_at (λ x. (b < x) × (x < n)) goes (start_of first from (b + 1))
      (omega (arith, starts_stop first from goes n g.laid b l, g.laid.room)) (start_of first from b) k p q (g.later b l)

-- THE MEMO.
module _ (value : ℕ → ℕ) (n : ℕ) (memo : List ℕ) (b v : ℕ) (l : b < Limit.BLOCKS) (w : Known value n memo) (e : v ≡ value b) where
  by : (i : ℕ) → i < n → (get_or (set memo b v) i 0 ≡ 0 → ⊥) → (t : Bool) → eqb i b ≡ t → get_or (set memo b v) i 0 ≡ value i
  by i h z true q =
      let s : i ≡ b = eqb-true i b q in rw s (get_or-set_same memo b v 0 (omega (arith, w.places)) ∙ e)
  by i h z false q =
      let o = get_or-set_other memo b i v 0 (eqb-false i b q) in o ∙ w.right i h (λ y. z (o ∙ y))

  -- One value more is known.
  pub known_more : Known value n (set memo b v)
  known_more = record { places = length-set memo b v ∙ w.places; right = λ i h z. by i h z (eqb i b) refl }

-- Nothing is known.
pub known_none : (value : ℕ → ℕ) (n : ℕ) → n ≤ Limit.BLOCKS → Known value n (replicate Limit.BLOCKS 0)
known_none value n f =
    record {
      places = length-replicate {A = ℕ} Limit.BLOCKS 0;
      right = λ i h z. absurd
          (z (get_or-replicate Limit.BLOCKS i 0 0 (omega arith)));
    }
