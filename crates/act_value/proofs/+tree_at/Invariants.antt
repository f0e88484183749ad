-- `act_value::tree_at` meets its contract: the nodes from the k-th on get fewer from call to call, and what is read at a node
-- follows from what is read of its operands (Turns).
-- Assumes nothing.
use Prim.Native.Nat.{◌-◌, ◌/◌}
use lib.ListN.{length}
use Rattle.act_value.proofs.+tree_at.Given as goal

abbrev pub decreases-tree_at : goal.decreases-tree_at
decreases-tree_at l = length l.bs.now / 6 - l.k
