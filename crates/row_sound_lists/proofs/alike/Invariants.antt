-- `row_sound_lists::alike` meets its contract: turn by turn. Assumes nothing.
use Prim.Native.Nat.{◌-◌, ◌≤◌}
use mathlib.Core.Path.{◌≡◌}
use lib.Dec.{eqb}
use Rattle.semantics.specs.Numbers as No
use Rattle.base_numbers.specs.Process as Process
use Rattle.row_sound_lists.specs.Tests.{tally, one_if, word_of}
use Rattle.row_sound_lists.proofs.alike.Given as goal

abbrev pub invariant-loop-q : goal.invariant-loop-q
invariant-loop-q l = (l.q ≤ No.places) × (l.found ≤ l.q)
    × (l.found ≡ tally l.q (λ j. one_if (eqb l.number (word_of l.w j Process.NUMBER))))

abbrev pub decreases-loop-q : goal.decreases-loop-q
decreases-loop-q l = No.places - l.q
