-- `row_process::all_zero` meets its contract. The loop's invariant: what was found so far and what is left to be found are the
-- whole answer. Assumes nothing.
use Prim.Native.Nat.{◌-◌, ◌≤◌}
use lib.ListN.{length, drop}
use mathlib.Core.Bool.{◌&&◌}
use mathlib.Core.Path.{◌≡◌}
use Rattle.row_process.proofs.Zeros.{zeros}
use Rattle.row_process.proofs.all_zero.Given as goal

abbrev pub invariant-loop-i : goal.invariant-loop-i
invariant-loop-i l = (l.i ≤ length l.row) × ((l.zero && zeros (drop l.i l.row)) ≡ zeros l.row)

abbrev pub decreases-loop-i : goal.decreases-loop-i
decreases-loop-i l = length l.row - l.i
