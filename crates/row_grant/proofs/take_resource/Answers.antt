-- `row_grant::take_resource` meets its contract: with less free the work still shows a state, and then the process holds more.
-- Assumes nothing.
use native.Mathlib.Omega.{arith}
use Rattle.row_grant.proofs.Taking.{is_long, free_few, free_enough, less_free, resource_taken}
use Rattle.row_grant.proofs.take_resource.Goals as goal

pub bounds-w-i : goal.bounds-w-i
bounds-w-i c = omega (arith, is_long c.requires, free_few c.requires)

pub overflow_sub-w : goal.overflow_sub-w
overflow_sub-w c = omega (arith, free_enough c.requires)

pub bounds-w-i-2 : goal.bounds-w-i-2
bounds-w-i-2 c = omega (arith, is_long c.requires, free_few c.requires)

pub take_up-requires : goal.take_up-requires
take_up-requires c = less_free c.requires

pub returns : goal.returns
returns c = λ d. resource_taken d c.take_up.ensures
