-- Weights of blocks, over what each action weighs itself, how often it goes and where; and the arrays that carry it.
-- Assumes nothing.
use Rattle.std.specs.Prelude.{ℕ, zero, suc, ◌+◌, ◌*◌, ◌-◌, ◌≤◌, ◌<◌, min, List, [], ◌∷◌, map, get_or}
use Rattle.std.proofs.Math.Seq.{slice}
use Rattle.semantics.specs.Words.{collect, largest, sum}
use Rattle.base_numbers.specs.Limit as Limit
use Rattle.file_depth.specs.Deep.{measured_all, measured}

-- k, k + 1, .. : j numbers.
unfoldable pub run : ℕ → ℕ → List ℕ
run zero k = []
run (suc j) k = k ∷ run j (suc k)

-- The actions of all blocks, numbered through.
pub record Acts : Type 0 where
  pub first : ℕ → ℕ  -- how many stand before a block
  pub own : ℕ → ℕ  -- the own weight of an action
  pub times : ℕ → ℕ  -- how often it goes to a block
  pub goes : ℕ → List ℕ  -- the blocks that it goes to

abbrev pub actions : Acts → ℕ → List ℕ
actions s b = run (s.first (b + 1) - s.first b) (s.first b)

-- An action weighs own + times × the largest of its (block + 1), given the weights of later blocks.
abbrev pub action_weight : Acts → (ℕ → ℕ) → ℕ → ℕ
action_weight s w a = s.own a + s.times a * largest (map (λ x. w x + 1) (s.goes a))

-- A block weighs the sum of its actions. Here the distance from block b to the last is at most d.
unfoldable pub weight_in : Acts → ℕ → ℕ → ℕ
weight_in s zero b = 0
weight_in s (suc d) b = sum (map (action_weight s (weight_in s d)) (actions s b))

unfoldable pub weight_of : Acts → ℕ → ℕ → ℕ
unfolding weight_in
weight_of s n b = weight_in s (n - b) b

abbrev pub action_weight_of : Acts → ℕ → ℕ → ℕ
action_weight_of s n = action_weight s (weight_of s n)

-- The code knows a weight up to the least number that is OVER.
abbrev pub cap : ℕ → ℕ
cap x = min x Limit.OVER

-- What it says of block b, and keeps in the memo, where 0 is "not yet": the weight and one.
abbrev pub told : Acts → ℕ → ℕ → ℕ
told s n b = cap (weight_of s n b) + 1

-- What the memo becomes when block b is weighed, and when action a is.
abbrev pub names_of : Acts → ℕ → List ℕ
names_of s b = collect s.goes (actions s b)

abbrev pub weighed : Acts → ℕ → ℕ → List ℕ → List ℕ
weighed s n = measured (names_of s) (told s n) n

abbrev pub action_weighed : Acts → ℕ → ℕ → List ℕ → List ℕ
action_weighed s n a = measured_all (weighed s n) (s.goes a)

abbrev pub acts_in : List ℕ → List ℕ → List ℕ → List ℕ → List ℕ → Acts
acts_in first from goes own times =
    record {
      first = λ b. get_or first b 0;
      own = λ a. get_or own a 0;
      times = λ a. get_or times a 0;
      goes = λ a. slice (get_or from a 0) (get_or from (a + 1) 0) goes;
    }

-- Action a stands in block b.
pub record Stands (first : List ℕ) (n b a : ℕ) : Type 0 where
  pub block : b < n
  pub low : get_or first b 0 ≤ a
  pub high : a < get_or first (b + 1) 0
