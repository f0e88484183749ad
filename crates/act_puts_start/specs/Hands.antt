-- What a process on the floor hands over: shares to one that it starts, and the floor's time to slaves that it lets go.
-- Assumes nothing.
use Rattle.std.specs.Prelude.{ℕ, List}
use Rattle.semantics.specs.Model.{Share, START}
use Rattle.file_actions.specs.Bodies.{Starts}
use Rattle.act_floor.specs.Acting.{Acting}

-- The process in place p stands at a START, whose record's body is `body`.
pub record Starting (body map w : List ℕ) (p : ℕ) : Type 0 where
  pub file : List ℕ
  pub class : ℕ
  pub offset : ℕ
  pub shares : List Share
  pub acting : Acting file map w p (START class offset shares)
  pub says : Starts class offset shares body
