-- `file_index::branches_of` meets its contract. The loop's invariant is `Branching`: each array has the front of its table.
-- Assumes nothing.
use lib.ListN.{length}
use Prim.Native.Nat.{◌-◌}
use Rattle.file_index.proofs.Branching.{Branching}
use Rattle.file_index.specs.Branches.{rows}
use Rattle.file_index.proofs.branches_of.Given as goal

abbrev pub invariant-loop-at : goal.invariant-loop-at
invariant-loop-at l = Branching l.s l.from (rows l.claim l.resources l.bins l.syncs) l.actions l.ends l.at

abbrev pub decreases-loop-at : goal.decreases-loop-at
decreases-loop-at l = length l.s - l.at
