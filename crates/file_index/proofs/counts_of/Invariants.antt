-- `file_index::counts_of` meets its contract. The loop's invariant is `Counting`: what was counted and what the bytes from `at`
-- on declare is what the file declares. Assumes nothing.
use Prim.Native.Nat.{◌-◌}
use lib.ListN.{length}
use Rattle.file_index.proofs.Counting.{Counting}
use Rattle.file_index.proofs.counts_of.Given as goal

abbrev pub invariant-loop-at : goal.invariant-loop-at
invariant-loop-at l = Counting l.s l.resources l.bins l.syncs l.variables l.samplers l.at

abbrev pub decreases-loop-at : goal.decreases-loop-at
decreases-loop-at l = length l.s - l.at
