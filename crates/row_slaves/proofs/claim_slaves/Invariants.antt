-- `row_slaves::claim_slaves` meets its contract. The loop's invariant: k are claimed in the state that is shown. Assumes
-- nothing.
use Prim.Native.Nat.{◌-◌, ◌≤◌}
use mathlib.Core.Path.{◌≡◌}
use Rattle.semantics.specs.Model.{sync, get}
use Rattle.semantics.specs.Claim.{take_item}
use Rattle.row_work.specs.Work.{work_of, Doing}
use Rattle.row_slaves.specs.Slaves.{Waiting}
use Rattle.row_slaves.proofs.claim_slaves.Given as goal

abbrev pub invariant-loop-k : goal.invariant-loop-k
invariant-loop-k l = (l.k ≤ l.n)
    × ((d : Doing l.initial.w (Waiting l.p l.i l.n) (take_item l.p (get sync l.i l.n))) → l.w ≡ work_of (take_item l.p (get sync l.i l.k) d.is))

abbrev pub decreases-loop-k : goal.decreases-loop-k
decreases-loop-k l = l.n - l.k
