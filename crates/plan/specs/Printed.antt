-- What is printed of a file: a text, and a piece of it that is next. Assumes nothing.
use Rattle.std.specs.Prelude.{ℕ, ◌≡◌, List, ◌++◌, length}
use Rattle.semantics.specs.Plan.{plan}
use Rattle.plan_text.specs.Text.{printed_text}

-- The text of the whole plan.
abbrev pub plan_text : List ℕ → List ℕ
plan_text bs = printed_text (plan bs)

-- Behind the first `at` bytes of the text comes the piece.
pub record Next (text : List ℕ) (at : ℕ) (piece : List ℕ) : Type 0 where
  pub front : List ℕ
  pub rest : List ℕ
  pub place : at ≡ length front
  pub is : text ≡ front ++ (piece ++ rest)
