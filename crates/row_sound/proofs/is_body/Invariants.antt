-- `row_sound::is_body` meets its contract: turn by turn. Assumes nothing.
use Prim.Native.Nat.{◌+◌, ◌-◌, ◌≤◌}
use mathlib.Core.Path.{◌≡◌}
use lib.Dec.{eqb}
use lib.ListN.{get_or}
use Rattle.base_numbers.specs.Map as Map
use Rattle.row_sound.specs.Chain.{among}
use Rattle.row_sound.proofs.is_body.Given as goal

abbrev pub invariant-loop-i : goal.invariant-loop-i
invariant-loop-i l = (l.i ≤ l.classes) × (l.found ≡ among l.i (λ j. eqb l.b (get_or l.map (Map.BODY + j) 0)))

abbrev pub decreases-loop-i : goal.decreases-loop-i
decreases-loop-i l = l.classes - l.i
