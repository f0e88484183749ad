-- What the program knows of a file, and of an answer. Assumes nothing.
use Rattle.std.specs.Prelude.{◌≡◌, List, ℕ, Bool, true, false}
use Rattle.semantics.specs.Model.{Model}
use Rattle.semantics.specs.Decode.{accepted, decode}
use Rattle.semantics.specs.Run.{Answer, CLOSED, IDLE, LIMIT, FAULT}

-- It was checked and passed.
pub record Accepted (bs : List ℕ) : Type 0 where
  pub model : Model
  pub passes : decode bs ≡ accepted model

-- A run that ended by its limit goes on.
abbrev pub is_limit : Answer → Bool
is_limit CLOSED = false
is_limit IDLE = false
is_limit LIMIT = true
is_limit (FAULT n) = false
