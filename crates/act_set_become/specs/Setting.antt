-- A variable that is set by the process on the floor. Assumes nothing.
use Rattle.std.specs.Prelude.{ℕ, List}
use Rattle.semantics.specs.Model.{Expr, SET}
use Rattle.file_actions.specs.Bodies.{ReadsExpression}
use Rattle.act_floor.specs.Acting.{Acting}

-- The process in place p, on the floor, sets variable i to the value of the expression in `body`.
pub record Setting (body bs map w : List ℕ) (p i : ℕ) : Type 0 where
  pub expression : Expr
  pub reads : ReadsExpression body expression
  pub acting : Acting bs map w p (SET i expression)
