-- `row_claim::first_met` meets its contract. The invariant: the first that is met is the first from branch k on; where none is, what
-- the first of all lacks is at hand. Assumes nothing.
use Prim.Native.Nat.{◌-◌, ◌≤◌}
use Rattle.row_claim.specs.Asking.{Asking}
use Rattle.row_claim.proofs.Branches.{FirstFrom}
use Rattle.row_claim.proofs.first_met.Given as goal

abbrev pub invariant-loop-k : goal.invariant-loop-k
invariant-loop-k l = (l.k ≤ l.many) × ((v : Asking l.s l.map l.w l.a) → FirstFrom l.s l.map l.w l.a v l.k l.lacking)

abbrev pub decreases-loop-k : goal.decreases-loop-k
decreases-loop-k l = l.many - l.k
