-- Weights by recursion over the blocks that actions go to: enough fuel is enough; and what is left of them under the cap.
-- Assumes nothing.
use Prim.Native.Nat.{ℕ, zero, suc, ◌+◌, ◌*◌, ◌-◌, ◌≤◌, ◌<◌, min}
use mathlib.Core.Path.{◌≡◌, refl, ap}
use mathlib.Core.Bool.{Bool, true, false}
use mathlib.Core.List.{List, [], ◌∷◌, ◌++◌, map}
use native.Mathlib.Omega.{arith}
use native.Mathlib.Numerals.{add-one}
use borrow.Author.Tests.{leb-true, leb-false}
use lib.Dec.{leb}
use lib.ListN.{get_or}
use lib.Seq.{slice}
use Rattle.semantics.specs.Words.{largest, sum}
use Rattle.promises.specs.Laws.{AllOf, all_map}
use Rattle.base_numbers.specs.Limit as Limit
use Rattle.file_depth.specs.Deep.{Later, Graph, measured_all}
use Rattle.file_depth.proofs.Fuel.{at_distance}
use Rattle.file_depth.proofs.Laws.{map_same, agree_later, all_slice, from_rises, named_later}
use Rattle.file_depth.proofs.Model.{all_collect}
use Rattle.file_weight.specs.Weigh.{run, Acts, actions, action_weight, action_weight_of, weight_in, weight_of}
use Rattle.file_weight.specs.Weigh.{cap, told, names_of, acts_in, Stands}

-- LISTS.
pub measured_append : (f : ℕ → List ℕ → List ℕ) (xs ys memo : List ℕ) →
    measured_all f (xs ++ ys) memo ≡ measured_all f ys (measured_all f xs memo)
measured_append f [] ys memo = refl
measured_append f (x ∷ xs) ys memo = measured_append f xs ys (f x memo)

all_run : (P : ℕ → Type 0) (j k : ℕ) → ((i : ℕ) → k ≤ i → i < k + j → P i) → AllOf P (run j k)
unfolding run
all_run P zero k f = tt
all_run P (suc j) k f = (f k (omega arith) (omega arith), all_run P j (suc k) (λ i p q. f i (omega arith) (omega arith)))

pub run-cons : (a t : ℕ) → a < t → run (t - a) a ≡ a ∷ run (t - (a + 1)) (a + 1)
unfolding run
run-cons a t h = let e : t - a ≡ suc (t - (a + 1)) = omega arith in rw (e, add-one a)

pub run_none : (a t : ℕ) → t ≤ a → run (t - a) a ≡ []
unfolding run
run_none a t h = let e : t - a ≡ 0 = omega arith in rw e

-- FUEL. Each action goes to later blocks, which there are.
abbrev pub Ahead : Acts → ℕ → Type 0
Ahead s n = (b : ℕ) → b < n → AllOf (λ a. AllOf (λ x. (b < x) × (x < n)) (s.goes a)) (actions s b)

-- Weights that agree on the blocks that an action goes to give it the same weight.
pub same_action : (s : Acts) (w v : ℕ → ℕ) (a : ℕ) → AllOf (λ x. w x ≡ v x) (s.goes a) →
    action_weight s w a ≡ action_weight s v a
same_action s w v a h =
    ap (λ (xs : List ℕ). s.own a + s.times a * largest xs)
    (map_same (λ x. w x + 1) (λ x. v x + 1) (s.goes a)
    (all_map (λ x. w x ≡ v x) (λ x. w x + 1 ≡ v x + 1) (λ x e. ap (λ (k : ℕ). k + 1) e) (s.goes a) h))

module _ (s : Acts) (n : ℕ) (ahead : Ahead s n) where
  pub weight_step : (b : ℕ) → b < n → weight_of s n b ≡ sum (map (action_weight_of s n) (actions s b))
  unfolding weight_of weight_in
  weight_step =
      at_distance n (weight_in s) (λ w b. sum (map (action_weight s w) (actions s b))) (λ d b. refl) λ w v b l f.
      ap sum (map_same (action_weight s w) (action_weight s v) (actions s b)
      (all_map (λ a. AllOf (λ x. (b < x) × (x < n)) (s.goes a)) (λ a. action_weight s w a ≡ action_weight s v a)
      (λ a h. same_action s w v a (agree_later b n w v (s.goes a) f h)) (actions s b) (ahead b l)))

  pub names_later : Later (names_of s) n
  names_later b l = all_collect (λ x. (b < x) × (x < n)) s.goes (actions s b) (ahead b l)

-- THE ARRAYS.
module _ (first from goes : List ℕ) (n : ℕ) (g : Graph first from goes n) where
  -- Where action a of block b goes to, at place k.
  pub action_later : {b a : ℕ} → Stands first n b a → (k : ℕ) → get_or from a 0 ≤ k → k < get_or from (a + 1) 0 →
      (b < get_or goes k 0) × (get_or goes k 0 < n)
  action_later {b} {a} s k u v =
      let ends = g.laid.ends b s.block in
      let rises = from_rises first from goes n g.laid in
      named_later first from goes n g b s.block k
      (omega (arith, rises (a - get_or first b 0) (get_or first b 0) a (omega (arith, s.low)) (omega (arith, s.high, ends))))
      (omega (arith, rises (get_or first (b + 1) 0 - (a + 1)) (a + 1) (get_or first (b + 1) 0) (omega (arith, s.high)) ends))

  pub graph_ahead : (own times : List ℕ) → Ahead (acts_in first from goes own times) n
  graph_ahead own times b l =
      all_run (λ a. AllOf (λ x. (b < x) × (x < n)) (slice (get_or from a 0) (get_or from (a + 1) 0) goes))
      (get_or first (b + 1) 0 - get_or first b 0) (get_or first b 0) λ a p q.
      let r : a < get_or first (b + 1) 0 = omega (arith, g.laid.rises b l) in
      all_slice (λ x. (b < x) × (x < n)) goes (get_or from (a + 1) 0)
      (omega (arith, g.laid.stops (a + 1) (omega (arith, g.laid.ends b l)), g.laid.room))
      (get_or from (a + 1) 0 - get_or from a 0) (get_or from a 0)
      (omega (arith, g.laid.climbs a (omega (arith, g.laid.ends b l))))
      (action_later (record { block = l; low = p; high = r }))

-- THE CAP.
product : (o r x : ℕ) (t : Bool) → leb x (Limit.OVER + 1) ≡ t → cap (o + r * min x (Limit.OVER + 1)) ≡ cap (o + r * x)
product o r x true h = let e : min x (Limit.OVER + 1) ≡ x = omega (arith, leb-true x (Limit.OVER + 1) h) in rw e
product o zero x false h = omega arith
product o (suc r) x false h =
    let more : Limit.OVER + 1 < x = leb-false x (Limit.OVER + 1) h in
    let e : min x (Limit.OVER + 1) ≡ Limit.OVER + 1 = omega arith in rw e (omega arith)

tops : (w : ℕ → ℕ) (xs : List ℕ) →
    largest (map (λ x. cap (w x) + 1) xs) ≡ min (largest (map (λ x. w x + 1) xs)) (Limit.OVER + 1)
tops w [] = refl
tops w (x ∷ xs) = omega (arith, tops w xs)

-- What an action weighs, from what is told of the blocks that it goes to.
module _ (s : Acts) (n a t : ℕ) (e : t ≡ largest (map (told s n) (s.goes a))) where
  pub told_small : t ≤ Limit.OVER + 1
  told_small = omega (arith, tops (weight_of s n) (s.goes a))

  pub told_action : cap (s.own a + s.times a * t) ≡ cap (action_weight_of s n a)
  told_action =
      rw (e, tops (weight_of s n) (s.goes a))
      (product (s.own a) (s.times a) (largest (map (λ x. weight_of s n x + 1) (s.goes a))) _ refl)
