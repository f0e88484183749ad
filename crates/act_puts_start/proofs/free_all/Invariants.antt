-- `act_puts_start::free_all` meets its contract. The loop's invariant: those left, freed in the state that the work shows now,
-- lead to the same state and the same bytes. Assumes nothing.
use Prim.Native.Nat.{◌-◌, ◌≤◌}
use Rattle.act_puts_start.specs.Freeing.{Freeing}
use Rattle.act_puts_start.proofs.Freeing.{LeftOf}
use Rattle.act_puts_start.proofs.free_all.Given as goal

abbrev pub invariant-loop-k : goal.invariant-loop-k
invariant-loop-k l = (l.k ≤ l.n) × ((v : Freeing l.initial.w l.i l.places l.n) → LeftOf v l.at l.initial.out l.k l.w l.out)

abbrev pub decreases-loop-k : goal.decreases-loop-k
decreases-loop-k l = l.n - l.k
