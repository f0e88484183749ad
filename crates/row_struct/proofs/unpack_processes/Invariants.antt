-- `row_struct::unpack_processes` meets its contract. The loop's invariant: the rows of the first p stand. Assumes nothing.
use Prim.Native.Nat.{◌-◌}
use Rattle.semantics.specs.Numbers as No
use Rattle.row_struct.proofs.Places.{Placed}
use Rattle.row_struct.proofs.unpack_processes.Given as goal

abbrev pub invariant-loop-p : goal.invariant-loop-p
invariant-loop-p l = Placed l.ps l.w l.p

abbrev pub decreases-loop-p : goal.decreases-loop-p
decreases-loop-p l = No.places - l.p
