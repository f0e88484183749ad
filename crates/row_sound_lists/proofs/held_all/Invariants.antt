-- `row_sound_lists::held_all` meets its contract: turn by turn. Assumes nothing.
use Prim.Native.Nat.{◌+◌, ◌-◌, ◌*◌, ◌≤◌}
use mathlib.Core.Path.{◌≡◌}
use Rattle.semantics.specs.Numbers as No
use Rattle.base_numbers.specs.Process as Process
use Rattle.base_numbers.specs.Limit as Limit
use Rattle.row_sound_lists.specs.Tests.{tally, word_of}
use Rattle.row_sound_lists.proofs.held_all.Given as goal

abbrev pub invariant-loop-q : goal.invariant-loop-q
invariant-loop-q l = (l.q ≤ No.places) × (l.found ≤ Limit.AMOUNT * l.q)
    × (l.found ≡ tally l.q (λ j. word_of l.w j (Process.HELD + l.i)))

abbrev pub decreases-loop-q : goal.decreases-loop-q
decreases-loop-q l = No.places - l.q
