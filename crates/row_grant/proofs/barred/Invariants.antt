-- `row_grant::barred` meets its contract. The loop's invariant: one of the first k bars if one from the i-th on does.
-- Assumes nothing.
use Prim.Native.Nat.{◌-◌, ◌≤◌}
use Rattle.row_grant.specs.Grant.{Facing}
use Rattle.row_grant.proofs.Facing.{BarredFrom}
use Rattle.row_grant.proofs.barred.Given as goal

abbrev pub invariant-loop-i : goal.invariant-loop-i
invariant-loop-i l = (l.i ≤ l.k) × ((v : Facing l.s l.map l.w l.a l.k) → BarredFrom v l.i)

abbrev pub decreases-loop-i : goal.decreases-loop-i
decreases-loop-i l = l.k - l.i
