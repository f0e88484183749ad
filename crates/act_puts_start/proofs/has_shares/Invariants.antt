-- `act_puts_start::has_shares` meets its contract. The loop's invariant: what is left is there when all shares are. Assumes
-- nothing.
use Prim.Native.Nat.{◌*◌, ◌≤◌}
use lib.ListN.{length}
use Rattle.act_puts_start.specs.Shares.{Offering}
use Rattle.act_puts_start.proofs.Sharing.{AskedOf}
use Rattle.act_puts_start.proofs.has_shares.Given as goal

abbrev pub invariant-loop-left : goal.invariant-loop-left
invariant-loop-left l = (6 * l.left ≤ length l.rest) × ((v : Offering l.body l.w l.p) → AskedOf v l.left l.rest)

abbrev pub decreases-loop-left : goal.decreases-loop-left
decreases-loop-left l = l.left
