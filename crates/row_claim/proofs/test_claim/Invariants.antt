-- `row_claim::test_claim` meets its contract. The loop's invariant: the test of what is left is that of the claim. Assumes nothing.
use Prim.Native.Nat.{◌+◌, ◌-◌, ◌*◌, ◌≤◌}
use lib.ListN.{length}
use Rattle.row_claim.specs.Asking.{Meeting}
use Rattle.row_claim.proofs.Claims.{Left}
use Rattle.row_claim.proofs.test_claim.Given as goal

abbrev pub invariant-loop-left : goal.invariant-loop-left
invariant-loop-left l = (8 * l.left ≤ length l.rest) × (l.left ≤ l.many)
    × ((v : Meeting l.s l.at l.w) → Left v.model v.is v.claim (l.many - l.left + 1) l.left l.rest)

abbrev pub decreases-loop-left : goal.decreases-loop-left
decreases-loop-left l = l.left
