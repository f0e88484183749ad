-- `act_puts_start::move_shares` meets its contract. The loop's invariant: the shares left, moved in the state that the work
-- shows now, lead to the same state. Assumes nothing.
use Prim.Native.Nat.{◌*◌, ◌≤◌}
use lib.ListN.{length}
use Rattle.act_puts_start.specs.Shares.{Moving}
use Rattle.act_puts_start.proofs.Sharing.{LeftOf}
use Rattle.act_puts_start.proofs.move_shares.Given as goal

abbrev pub invariant-loop-left : goal.invariant-loop-left
invariant-loop-left l = (6 * l.left ≤ length l.rest) ×
    ((v : Moving l.body l.initial.w l.p l.away) → LeftOf v l.left l.rest l.w)

abbrev pub decreases-loop-left : goal.decreases-loop-left
decreases-loop-left l = l.left
