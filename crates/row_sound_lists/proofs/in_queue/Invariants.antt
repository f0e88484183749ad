-- `row_sound_lists::in_queue` meets its contract: turn by turn. Assumes nothing.
use Prim.Native.Nat.{◌+◌, ◌-◌, ◌%◌, ◌≤◌}
use mathlib.Core.Path.{◌≡◌}
use lib.Dec.{eqb}
use lib.ListN.{get_or}
use Rattle.base_numbers.specs.Word as Word
use Rattle.row_sound_lists.specs.Tests.{tally, one_if}
use Rattle.row_sound_lists.proofs.in_queue.Given as goal

abbrev pub invariant-loop-k : goal.invariant-loop-k
invariant-loop-k l = (l.k ≤ l.n) × (l.found ≤ l.k) × (l.found ≡ tally l.k (λ j. one_if (eqb l.p (get_or l.w (l.from + j) 0 % Word.PLACES))))

abbrev pub decreases-loop-k : goal.decreases-loop-k
decreases-loop-k l = l.n - l.k
