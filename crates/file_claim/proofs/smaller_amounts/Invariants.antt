-- `file_claim::smaller_amounts` meets its contract. The loop's invariant: what is left to be compared decides. Assumes nothing.
use Prim.Native.Nat.{◌*◌, ◌≤◌}
use mathlib.Core.Path.{◌≡◌}
use lib.ListN.{length, drop}
use Rattle.semantics.specs.Record.{claim_in}
use Rattle.semantics.specs.Claim.{smaller_amounts}
use Rattle.file_claim.specs.Laid.{items_in}
use Rattle.file_claim.proofs.Turns.{left_of}
use Rattle.file_claim.proofs.smaller_amounts.Given as goal

abbrev pub invariant-loop-left : goal.invariant-loop-left
invariant-loop-left l = (8 * l.left ≤ length l.rest)
    × (left_of (claim_in (drop l.q l.s)) (claim_in (drop l.b l.s)) l.smaller (items_in l.left l.rest)
    ≡ smaller_amounts (claim_in (drop l.q l.s)) (claim_in (drop l.b l.s)))

abbrev pub decreases-loop-left : goal.decreases-loop-left
decreases-loop-left l = l.left
