-- `row_sound_lists::in_events` meets its contract: turn by turn. Assumes nothing.
use Prim.Native.Nat.{◌+◌, ◌-◌, ◌≤◌}
use mathlib.Core.Path.{◌≡◌}
use mathlib.Core.Bool.{◌&&◌}
use lib.Dec.{eqb}
use lib.ListN.{get_or}
use Rattle.base_numbers.specs.Row as Row
use Rattle.base_ordered.specs.Lines.{kind_of, number_of}
use Rattle.row_sound_lists.specs.Tests.{tally, one_if}
use Rattle.row_sound_lists.proofs.in_events.Given as goal

abbrev pub invariant-loop-k : goal.invariant-loop-k
invariant-loop-k l = (l.k ≤ l.n) × (l.found ≤ l.k)
    × (l.found ≡ tally l.k (λ j. one_if (eqb (kind_of (get_or l.w (Row.NOTICES + j) 0)) 0
    && eqb l.p (number_of (get_or l.w (Row.NOTICES + j) 0)))))

abbrev pub decreases-loop-k : goal.decreases-loop-k
decreases-loop-k l = l.n - l.k
