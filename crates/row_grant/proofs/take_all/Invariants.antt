-- `row_grant::take_all` meets its contract. The loop's invariant: the items left, taken from the state that the work shows now,
-- come to the whole claim taken. Assumes nothing.
use Prim.Native.Nat.{◌*◌, ◌≤◌}
use lib.ListN.{length}
use Rattle.row_grant.specs.Grant.{Taking}
use Rattle.row_grant.proofs.Taking.{LeftOf}
use Rattle.row_grant.proofs.take_all.Given as goal

abbrev pub invariant-loop-left : goal.invariant-loop-left
invariant-loop-left l = (8 * l.left ≤ length l.rest) × ((v : Taking l.s l.at l.initial.w l.p) → LeftOf v l.left l.rest l.w)

abbrev pub decreases-loop-left : goal.decreases-loop-left
decreases-loop-left l = l.left
