-- The living places as the binary digits of one number, the lowest for place 0. Assumes nothing.
use Rattle.std.specs.Prelude.{◌≡◌, List, [], ◌∷◌, ℕ, ◌+◌, ◌*◌, length, if◌then◌else◌}
use Rattle.semantics.specs.Numbers as No
use Rattle.semantics.specs.State.{Process, is_free}

abbrev pub lives : Process → ℕ
lives q = if is_free q then 0 else 1

unfoldable pub living_of : List Process → ℕ
living_of [] = 0
living_of (q ∷ qs) = lives q + 2 * living_of qs

-- A number shows the places of a run.
pub record Shows (living : ℕ) (ps : List Process) : Type 0 where
  pub places : length ps ≡ No.places
  pub digits : living ≡ living_of ps
