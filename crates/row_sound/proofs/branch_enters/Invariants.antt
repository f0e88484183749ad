-- `row_sound::branch_enters` meets its contract: the block of a branch stands before its claim. Assumes nothing.
use Prim.Native.Nat.{◌+◌, ◌-◌, ◌≤◌}
use mathlib.Core.Path.{◌≡◌}
use lib.Dec.{eqb}
use lib.ListN.{get_or}
use Rattle.file_map.specs.Map.{claim_at}
use Rattle.semantics.specs.Bytes.{u16}
use Rattle.base_numbers.specs.Map as Map
use Rattle.row_sound.specs.Chain.{among}
use Rattle.row_sound.proofs.branch_enters.Given as goal

abbrev pub invariant-loop-k : goal.invariant-loop-k
invariant-loop-k l = (l.from ≡ get_or l.map (Map.FROM + l.a) 0) × (l.from + l.many ≡ get_or l.map (Map.FROM + (l.a + 1)) 0) × (l.k ≤ l.many)
    × (l.found ≡ among l.k (λ j. eqb (u16 l.bytes (claim_at l.map (l.from + j) - 2)) l.b))

abbrev pub decreases-loop-k : goal.decreases-loop-k
decreases-loop-k l = l.many - l.k
