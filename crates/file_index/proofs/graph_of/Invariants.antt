-- `file_index::graph_of` meets its contract. The loop's invariant is `Graphing`: each array has the front of its table.
-- Assumes nothing.
use lib.ListN.{length}
use Prim.Native.Nat.{◌-◌}
use Rattle.file_index.proofs.Graphing.{Graphing}
use Rattle.file_index.proofs.graph_of.Given as goal

abbrev pub invariant-loop-at : goal.invariant-loop-at
invariant-loop-at l = Graphing l.s l.start l.body l.own l.times l.from l.goes l.actions l.ends l.at

abbrev pub decreases-loop-at : goal.decreases-loop-at
decreases-loop-at l = length l.s - l.at
