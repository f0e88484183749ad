-- A test of branches: what it decides, by what is said of its answers. Assumes nothing.
use Rattle.std.specs.Prelude.{◌≡◌, List, ℕ, Bool}
use Rattle.std.specs.Borrow.{Bor}

pub record Decides (says : Bor (List ℕ) → Bool → Type 0) : Type 0 where
  pub is : List ℕ → Bool
  pub so : (b : Bor (List ℕ)) (r : Bool) → says b r → r ≡ is b.now
