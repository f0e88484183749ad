-- The bytes of a model file that the check accepts. Assumes nothing.
use Rattle.std.specs.Prelude.{ℕ, ◌≡◌, List}
use Rattle.semantics.specs.Model.{Model}
use Rattle.semantics.specs.Decode.{accepted, decode}
use Rattle.promises.specs.Laws.{AllOf}
use Rattle.row_work.specs.Sized.{IsByte}

pub record Passing (bs : List ℕ) : Type 0 where
  pub model : Model
  pub passes : decode bs ≡ accepted model
  pub bytes_are : AllOf IsByte bs
