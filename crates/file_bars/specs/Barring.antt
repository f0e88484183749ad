-- What it takes to ask whether action b bars action q. Assumes nothing.
use Rattle.std.specs.Prelude.{ℕ, ◌≤◌, ◌<◌, ◌≡◌, List, length}
use Rattle.semantics.specs.Claim.{Offer}
use Rattle.base_numbers.specs.Limit as Limit
use Rattle.base_numbers.specs.Map as Map
use Rattle.file_map.specs.Map.{claim_at, OffersAt}
use Rattle.file_claim.specs.Laid.{Whole}

-- Branch n is there, its claim whole; and so are all from one number to before another.
abbrev pub There : List ℕ → List ℕ → ℕ → Type 0
There bs map n = (n < Limit.BRANCHES) × Whole bs (claim_at map n)

abbrev pub AllThere : List ℕ → List ℕ → ℕ → ℕ → Type 0
AllThere bs map from to = (n : ℕ) → from ≤ n → n < to → There bs map n

pub record Barring (bs map : List ℕ) (b q : ℕ) : Type 0 where
  pub by : List Offer  -- what b offers
  pub of : List Offer  -- what q offers
  pub long : length map ≡ Map.WORDS
  pub b_few : b < Limit.ACTIONS
  pub q_few : q < Limit.ACTIONS
  pub by_at : OffersAt bs map b by
  pub of_at : OffersAt bs map q of
