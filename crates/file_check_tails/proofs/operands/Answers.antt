-- `file_check_tails::operands` meets its contract. Assumes nothing.
use Prim.Native.Nat.{◌≤◌}
use lib.ListN.{get_or-eq_default}
use mathlib.Core.List.{[], ◌∷◌}
use mathlib.Core.Path.{refl, sym}
use native.Mathlib.Omega.{arith}
use Rattle.file_check_tails.proofs.Pile.{arity_small}
use Rattle.file_check_tails.specs.Tails.{arity}
use Rattle.file_check_tails.proofs.operands.Goals as goal

pub returns-then-k-lt-MANY : goal.returns-then-k-lt-MANY
unfolding arity
returns-then-k-lt-MANY c = (refl, arity_small c.args.op)

pub returns : goal.returns
unfolding arity
returns c = let h : 11 ≤ c.args.op = omega arith in
    (sym (get_or-eq_default (0 ∷ 0 ∷ 0 ∷ 2 ∷ 2 ∷ 2 ∷ 2 ∷ 2 ∷ 0 ∷ 1 ∷ 0 ∷ []) 0 h), omega arith)
