-- `file_claim::amount_of` meets its contract. The loop's invariant: what the items left have of the thing is what the claim has.
-- Assumes nothing.
use Prim.Native.Nat.{◌*◌, ◌≤◌}
use mathlib.Core.Path.{◌≡◌}
use lib.ListN.{length, drop}
use Rattle.semantics.specs.Record.{claim_in}
use Rattle.semantics.specs.Claim.{amount_of}
use Rattle.file_claim.specs.Laid.{items_in}
use Rattle.file_claim.specs.Amounts.{thing}
use Rattle.file_claim.proofs.amount_of.Given as goal

abbrev pub invariant-loop-left : goal.invariant-loop-left
invariant-loop-left l = (8 * l.left ≤ length l.rest)
    × (amount_of (items_in l.left l.rest) (thing l.kind l.number) ≡ amount_of (claim_in (drop l.at l.s)) (thing l.kind l.number))

abbrev pub decreases-loop-left : goal.decreases-loop-left
decreases-loop-left l = l.left
