-- A text put at the front of lent bytes. Assumes nothing.
use Rattle.std.specs.Prelude.{◌≡◌, List, ◌++◌, ℕ, ◌≤◌, length, drop}

-- ys is t and then what xs has behind it, and r is how many bytes t has. That r fits follows; it is stated for `&out[..r]`.
pub record Front (t xs ys : List ℕ) (r : ℕ) : Type 0 where
  pub count : r ≡ length t
  pub bytes : ys ≡ t ++ drop r xs
  pub fits : r ≤ length ys
