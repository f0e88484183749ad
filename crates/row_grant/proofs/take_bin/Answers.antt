-- `row_grant::take_bin` meets its contract. Assumes nothing.
use native.Mathlib.Omega.{arith}
use Rattle.row_grant.proofs.Taking.{is_long, bins_few, bin_enough, bin_taken}
use Rattle.row_grant.proofs.take_bin.Goals as goal

pub bounds-w-i : goal.bounds-w-i
bounds-w-i c = omega (arith, is_long c.requires, bins_few c.requires)

pub overflow_sub-w : goal.overflow_sub-w
overflow_sub-w c = omega (arith, bin_enough c.requires)

pub bounds-w-i-2 : goal.bounds-w-i-2
bounds-w-i-2 c = omega (arith, is_long c.requires, bins_few c.requires)

pub returns : goal.returns
returns c = λ d. bin_taken d
