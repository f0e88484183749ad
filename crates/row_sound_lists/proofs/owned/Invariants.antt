-- `row_sound_lists::owned` meets its contract: turn by turn. Assumes nothing.
use Prim.Native.Nat.{◌-◌, ◌*◌, ◌≤◌}
use mathlib.Core.Path.{◌≡◌}
use Rattle.semantics.specs.Numbers as No
use Rattle.row_sound_lists.specs.Tests.{tally, in_slaves}
use Rattle.row_sound_lists.proofs.owned.Given as goal

abbrev pub invariant-loop-q : goal.invariant-loop-q
invariant-loop-q l = (l.q ≤ No.places) × (l.found ≤ No.places * l.q) × (l.found ≡ tally l.q (in_slaves l.w l.p))

abbrev pub decreases-loop-q : goal.decreases-loop-q
decreases-loop-q l = No.places - l.q
