-- The expression of an action where a process stands, and the state that its draws leave. Assumes nothing.
use Rattle.std.specs.Prelude.{ℕ, List, Bool, ◌&&◌, leb, if◌then◌else◌}
use Rattle.semantics.specs.Words.{Outcome}
use Rattle.semantics.specs.Model.{Expr, Action}
use Rattle.semantics.specs.State.{State, process, with_seeds}
use Rattle.semantics.specs.Value as Value
use Rattle.semantics.specs.Value.{eval}
use Rattle.promises.specs.Fit.{ExprFit}
use Rattle.base_i32.specs.declared.Value as Code
use Rattle.file_actions.specs.Bodies.{ReadsExpression}
use Rattle.file_map.specs.Map.{Drawn}
use Rattle.row_process.specs.Process.{Lives}
use Rattle.act_value.specs.Parts.{draws_of}
use Rattle.act_floor.specs.Running.{Runs, On}

-- EXPRESSIONS. The body is one of the model, the map has what its samplers draw from, and the process in place p lives.
pub record Valued (body map w : List ℕ) (p : ℕ) : Type 0 where
  pub running : Runs w
  pub drawn : Drawn running.run.model map
  pub lives : Lives p running.run.is
  pub expression : Expr
  pub reads : ReadsExpression body expression
  pub expression_fits : ExprFit running.run.model expression

module _ {body map w : List ℕ} {p : ℕ} (v : Valued body map w p) where
  abbrev s : State
  s = v.running.run.is

  -- What the definitions work it out to, the seeds after its draws, and the state with these, if they are kept.
  abbrev pub worth : Outcome Value.Valued
  worth = eval v.running.run.model s (process s p) v.expression s.seeds

  abbrev pub seeds_left : List ℕ
  seeds_left = draws_of v.expression s.seeds

  abbrev pub left : Bool → State
  left keep = if keep then with_seeds s seeds_left else s

-- A value with a code of low..high.
abbrev pub is_within : ℕ → ℕ → Code.Value → Bool
is_within low high r = (r.ok && leb low r.code) && leb r.code high

-- It is the expression of the action x where the process on the floor stands.
pub record Given (body map w : List ℕ) (p : ℕ) (x : Expr → Action) : Type 0 where
  pub expression : Expr
  pub reads : ReadsExpression body expression
  pub on : On w p (x expression)
  pub drawn : Drawn on.running.run.model map
