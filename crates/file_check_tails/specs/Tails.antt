-- The tails of a record by the numbers that the table of kinds has; and the height of a pile of trees.
-- Assumes nothing.
use Rattle.std.specs.Prelude.{ℕ, suc, ◌+◌, ◌-◌, List, [], ◌∷◌, leb, length, get_or, if◌then◌else◌}
use Rattle.std.proofs.Math.Option.{Option, none, some}
use Rattle.semantics.specs.Model.{Expr}
use Rattle.semantics.specs.Record.{Tail, nothing, expression, branches, claim, shares}

-- 0 nothing, 1 expression, 2 branches, 3 claim, 4 shares
unfoldable pub tail_of : ℕ → Tail
tail_of t = get_or (nothing ∷ expression ∷ branches ∷ claim ∷ shares ∷ []) t nothing

-- How many trees a node takes off the pile, by its op.
unfoldable pub arity : ℕ → ℕ
arity op = get_or (0 ∷ 0 ∷ 0 ∷ 2 ∷ 2 ∷ 2 ∷ 2 ∷ 2 ∷ 0 ∷ 1 ∷ 0 ∷ []) op 0

-- The height of a pile and one; 0 where there is none. And the height after a node that takes off a trees.
abbrev pub height_of : Option (List Expr) → ℕ
height_of none = 0
height_of (some es) = suc (length es)

unfoldable pub grown_by : ℕ → ℕ → ℕ
grown_by a h = if leb (a + 1) h then h + 1 - a else 0
