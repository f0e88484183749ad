-- What a file is whose bound is a number or OVER, and an ENTITY record of it.
-- Assumes nothing.
use Rattle.std.specs.Prelude.{ℕ, ◌≤◌, ◌<◌, ◌≡◌, List, false, length, get_or}
use Rattle.semantics.specs.Model.{Model}
use Rattle.semantics.specs.Bytes.{u16}
use Rattle.semantics.specs.Decode.{accepted, decode}
use Rattle.semantics.specs.Bound.{loops}
use Rattle.base_numbers.specs.Limit as Limit

-- An accepted file whose model has no WHILE, and whose STARTs name later bodies.
pub record Endable (bs : List ℕ) : Type 0 where
  pub model : Model
  pub accepts : decode bs ≡ accepted model
  pub ends : loops model ≡ false

-- bs is the body of an ENTITY record, whose class has, by the classes' bodies, one of n blocks.
pub record Bodied (bs bodies : List ℕ) (n : ℕ) : Type 0 where
  pub there : 2 ≤ length bs
  pub class_in : u16 bs 0 < Limit.CLASSES
  pub block_in : get_or bodies (u16 bs 0) 0 < n
