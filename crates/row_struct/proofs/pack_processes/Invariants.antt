-- `row_struct::pack_processes` meets its contract. The loop's invariant: the first p have their rows. Assumes nothing.
use Prim.Native.Nat.{◌-◌}
use Rattle.semantics.specs.Numbers as No
use Rattle.row_struct.proofs.Places.{Placed}
use Rattle.row_struct.proofs.pack_processes.Given as goal

abbrev pub invariant-loop-p : goal.invariant-loop-p
invariant-loop-p l = Placed l.ps l.w l.p

abbrev pub decreases-loop-p : goal.decreases-loop-p
decreases-loop-p l = No.places - l.p
