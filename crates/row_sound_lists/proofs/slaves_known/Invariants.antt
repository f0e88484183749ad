-- `row_sound_lists::slaves_known` meets its contract: turn by turn. Assumes nothing.
use Prim.Native.Nat.{◌+◌, ◌-◌, ◌/◌, ◌≤◌}
use mathlib.Core.Path.{◌≡◌}
use lib.Dec.{ltb}
use Rattle.base_numbers.specs.Process as Process
use Rattle.base_numbers.specs.Word as Word
use Rattle.row_sound_lists.specs.Tests.{each, word_of}
use Rattle.row_sound_lists.proofs.slaves_known.Given as goal

abbrev pub invariant-loop-k : goal.invariant-loop-k
invariant-loop-k l = (l.k ≤ l.n) × (l.ok ≡ each l.k (λ j. ltb (word_of l.w l.p (Process.OWNED + j) / Word.SYNC) l.syncs))

abbrev pub decreases-loop-k : goal.decreases-loop-k
decreases-loop-k l = l.n - l.k
