-- `file_map::lay_u32` meets its contract. The loop's invariant is `Laying`: the front of the array is laid. Assumes nothing.
use lib.ListN.{length}
use Prim.Native.Nat.{◌-◌}
use Rattle.file_map.proofs.Laying.{Laying}
use Rattle.file_map.proofs.lay_u32.Given as goal

abbrev pub invariant-loop-i : goal.invariant-loop-i
invariant-loop-i l = Laying l.xs l.at l.initial.row l.row l.i

abbrev pub decreases-loop-i : goal.decreases-loop-i
decreases-loop-i l = length l.xs - l.i
