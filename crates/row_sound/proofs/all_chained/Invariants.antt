-- `row_sound::all_chained` meets its contract: turn by turn. Assumes nothing.
use Prim.Native.Nat.{◌-◌, ◌≤◌}
use mathlib.Core.Path.{◌≡◌}
use Rattle.semantics.specs.Numbers as No
use Rattle.semantics.specs.State.{process}
use Rattle.semantics.specs.Sound.{chained}
use Rattle.row_sound_lists.specs.Tests.{each}
use Rattle.row_sound.specs.Chain.{Viewed}
use Rattle.row_sound.proofs.all_chained.Given as goal

abbrev pub invariant-loop-p : goal.invariant-loop-p
invariant-loop-p l = (l.p ≤ No.places) × ((v : Viewed l.bytes l.map l.w l.classes) → l.ok ≡ each l.p (λ j. chained v.model (process v.is j).frames))

abbrev pub decreases-loop-p : goal.decreases-loop-p
decreases-loop-p l = No.places - l.p
