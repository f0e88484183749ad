-- How deep blocks nest, over what each block names; and the arrays that carry it.
-- Assumes nothing.
use Rattle.std.specs.Prelude.{ℕ, zero, suc, ◌+◌, ◌-◌, ◌≤◌, ◌<◌, ◌≡◌, List, [], ◌∷◌, map, eqb, length, get_or, set, if◌then◌else◌}
use Rattle.std.proofs.Math.Seq.{slice}
use Rattle.semantics.specs.Words.{largest}
use Rattle.std.specs.Coded.{×_prop, Unit-prop, le_prop}
use Rattle.promises.specs.Laws.{AllOf}
use Rattle.base_numbers.specs.Limit as Limit

-- How many blocks nest at b, itself included, where the distance from b to the last block is at most d.
unfoldable pub depth_in : (ℕ → List ℕ) → ℕ → ℕ → ℕ
depth_in names zero b = 0
depth_in names (suc d) b = suc (largest (map (depth_in names d) (names b)))

unfoldable pub depth_of : (ℕ → List ℕ) → ℕ → ℕ → ℕ
unfolding depth_in
depth_of names n b = depth_in names (n - b) b

-- The actions of block b are those from first[b] up to first[b + 1], and action a goes to goes[from[a] .. from[a + 1]]. So this
-- is where the blocks that block b names begin.
abbrev pub start_of : List ℕ → List ℕ → ℕ → ℕ
start_of first from b = get_or from (get_or first b 0) 0

abbrev pub names_in : List ℕ → List ℕ → List ℕ → ℕ → List ℕ
names_in first from goes b = slice (start_of first from b) (start_of first from (b + 1)) goes

-- The arrays rise, and stay in range, as far as there are blocks and actions.
pub record Laid (first from goes : List ℕ) (n : ℕ) : Type 0 where
  pub few : n ≤ Limit.BLOCKS
  pub many : get_or first n 0 ≤ Limit.ACTIONS
  pub room : length goes ≡ Limit.BRANCHES
  pub rises : (b : ℕ) → b < n → get_or first b 0 ≤ get_or first (b + 1) 0
  pub ends : (b : ℕ) → b < n → get_or first (b + 1) 0 ≤ get_or first n 0
  pub climbs : (a : ℕ) → a < get_or first n 0 → get_or from a 0 ≤ get_or from (a + 1) 0
  pub stops : (a : ℕ) → a ≤ get_or first n 0 → get_or from a 0 ≤ Limit.BRANCHES

-- Each block that is named is a later one, which there is.
abbrev pub Later : (ℕ → List ℕ) → ℕ → Type 0
Later names n = (b : ℕ) → b < n → AllOf (λ x. (b < x) × (x < n)) (names b)

pub later_prop : (b n : ℕ) (xs : List ℕ) → IsProp (AllOf (λ x. (b < x) × (x < n)) xs)
later_prop b n [] = Unit-prop
later_prop b n (x ∷ xs) = ×_prop (×_prop le_prop le_prop) (later_prop b n xs)

pub record Graph (first from goes : List ℕ) (n : ℕ) : Type 0 where
  pub laid : Laid first from goes n
  pub later : Later (names_in first from goes) n

-- What is found already, and kept in the memo, is right; 0 is "not yet".
pub record Known (value : ℕ → ℕ) (n : ℕ) (memo : List ℕ) : Type 0 where
  pub places : length memo ≡ Limit.BLOCKS
  pub right : (i : ℕ) → i < n → (get_or memo i 0 ≡ 0 → ⊥) → get_or memo i 0 ≡ value i

-- What a memo becomes when xs are measured one after another.
abbrev pub measured_all : (ℕ → List ℕ → List ℕ) → List ℕ → List ℕ → List ℕ
measured_all f [] memo = memo
measured_all f (x ∷ xs) memo = measured_all f xs (f x memo)

-- And when block b is: if it is not yet known, the blocks that it names are measured first, and then its value is noted. Here
-- the distance from b to the last block is at most d.
unfoldable pub measured_in : (ℕ → List ℕ) → (ℕ → ℕ) → ℕ → ℕ → List ℕ → List ℕ
measured_in names value zero b memo = memo
measured_in names value (suc d) b memo =
    if eqb (get_or memo b 0) 0 then set (measured_all (measured_in names value d) (names b) memo) b (value b) else memo

unfoldable pub measured : (ℕ → List ℕ) → (ℕ → ℕ) → ℕ → ℕ → List ℕ → List ℕ
unfolding measured_in
measured names value n b memo = measured_in names value (n - b) b memo
