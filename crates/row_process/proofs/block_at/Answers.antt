-- `row_process::block_at` meets its contract: the lowest part of the innermost block's word. Assumes nothing.
use native.Mathlib.Omega.{arith}
use Rattle.row_process.proofs.Standing.{top_sized}
use Rattle.row_process.proofs.block_at.Goals as goal

pub returns : goal.returns
returns c = λ v. omega (arith, c.top_word.ensures v, top_sized v v.given)
