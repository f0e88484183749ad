-- `row_grant::action_at` meets its contract. Assumes nothing.
use native.Mathlib.Omega.{arith}
use Rattle.row_process.proofs.Standing.{top_sized}
use Rattle.row_grant.proofs.action_at.Goals as goal

pub number_at-requires : goal.number_at-requires
number_at-requires c = let v = c.requires.0 in
    omega (arith, c.block_at-block.ensures v, (top_sized v v.given).block_low, c.requires.1)

pub overflow_add-result : goal.overflow_add-result
overflow_add-result c = let v = c.requires.0 in
    omega (
      arith,
      c.standing_at-at.ensures v,
      (top_sized v v.given).at_low,
      c.number_at.ensures,
      c.shared_slice_known-1.given c.block_at-block.result,
    )

pub returns : goal.returns
returns c = λ v. rw (c.number_at.ensures, c.block_at-block.ensures v, c.standing_at-at.ensures v)
