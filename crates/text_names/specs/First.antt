-- A table that has no name yet: it is fine, and nothing is known.
-- Assumes nothing.
use Rattle.std.specs.Prelude.{ℕ, ◌≡◌, List, []}
use Rattle.std.proofs.Common.{arith}
use Rattle.std.proofs.Math.Path.{refl}
use Rattle.text_names.specs.Table.{known_of, Fine}

module _ (bs : List ℕ) where
  pub first_fine : Fine bs []
  first_fine = record { few = omega arith; right = λ k d h. absurd (omega arith) }

  pub first_known : known_of bs [] ≡ []
  first_known = refl
