-- `row_sound::blocked_stand` meets its contract: turn by turn. Assumes nothing.
use Prim.Native.Nat.{◌+◌, ◌-◌, ◌%◌, ◌≤◌}
use mathlib.Core.Path.{◌≡◌}
use lib.ListN.{get_or}
use Rattle.semantics.specs.State.{process}
use Rattle.semantics.specs.Claim.{stands_in}
use Rattle.semantics.specs.Sound.{asks_at}
use Rattle.base_numbers.specs.Row as Row
use Rattle.base_numbers.specs.Word as Word
use Rattle.row_sound_lists.specs.Tests.{each}
use Rattle.row_sound.specs.Chain.{Chained}
use Rattle.row_sound.proofs.blocked_stand.Given as goal

abbrev pub invariant-loop-k : goal.invariant-loop-k
invariant-loop-k l = (l.k ≤ l.n) × ((v : Chained l.bytes l.map l.w l.classes)
    → l.ok ≡ each l.k (λ j. asks_at (stands_in v.viewed.model
    (process v.viewed.is (get_or l.w (Row.QUEUE + j) 0 % Word.PLACES)).frames)))

abbrev pub decreases-loop-k : goal.decreases-loop-k
decreases-loop-k l = l.n - l.k
