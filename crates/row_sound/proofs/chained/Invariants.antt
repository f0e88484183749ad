-- `row_sound::chained` meets its contract: the outer blocks are chained as far as the loop has come. Assumes nothing.
use Prim.Native.Nat.{◌-◌, ◌≤◌}
use mathlib.Core.Path.{◌≡◌}
use mathlib.Core.Bool.{true}
use Rattle.semantics.specs.State.{process}
use Rattle.semantics.specs.Sound.{chained}
use Rattle.row_sound.specs.Chain.{Viewed}
use Rattle.row_sound.proofs.Frames.{outer_of}
use Rattle.row_sound.proofs.chained.Given as goal

abbrev pub invariant-loop-k : goal.invariant-loop-k
invariant-loop-k l = (l.k ≤ l.depth)
    × ((v : Viewed l.bytes l.map l.w l.classes) → chained v.model (outer_of l.k (process v.is l.p).frames) ≡ true)

abbrev pub decreases-loop-k : goal.decreases-loop-k
decreases-loop-k l = l.depth - l.k
