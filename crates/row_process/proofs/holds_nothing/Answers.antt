-- `row_process::holds_nothing` meets its contract: 32 words are 0 where what is held is, and the fourth word counts the slaves.
-- Assumes nothing.
use native.Mathlib.Omega.{arith}
use Rattle.row_process.proofs.Holding.{nothing_held}
use Rattle.row_process.proofs.Standing.{is_long}
use Rattle.row_process.proofs.holds_nothing.Goals as goal

pub slice_bounds-all_zero-end : goal.slice_bounds-all_zero-end
slice_bounds-all_zero-end c = let v = c.requires in omega (arith, is_long v, v.given)

pub word-requires : goal.word-requires
word-requires c = let v = c.requires in (is_long v, (v.given, omega arith))

pub returns : goal.returns
returns c = λ v. nothing_held v _ v.given _ _ c.all_zero.ensures c.word.ensures
