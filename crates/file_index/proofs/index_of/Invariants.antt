-- `file_index::index_of` meets its contract. The loop's invariant is `Indexing`: each array has the front of its table.
-- Assumes nothing.
use lib.ListN.{length}
use Prim.Native.Nat.{◌-◌}
use Rattle.file_index.proofs.Indexing.{Indexing}
use Rattle.file_index.proofs.index_of.Given as goal

abbrev pub invariant-loop-at : goal.invariant-loop-at
invariant-loop-at l = Indexing l.s l.first l.place l.body l.blocks l.actions l.classes l.at

abbrev pub decreases-loop-at : goal.decreases-loop-at
decreases-loop-at l = length l.s - l.at
