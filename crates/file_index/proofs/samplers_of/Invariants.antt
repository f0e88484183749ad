-- `file_index::samplers_of` meets its contract. The loop's invariant is `Sampling`: each array has the front of its table.
-- Assumes nothing.
use lib.ListN.{length}
use Prim.Native.Nat.{◌-◌}
use Rattle.file_index.proofs.Sampling.{Sampling}
use Rattle.file_index.proofs.samplers_of.Given as goal

abbrev pub invariant-loop-at : goal.invariant-loop-at
invariant-loop-at l = Sampling l.s l.lowest l.values l.samplers l.at

abbrev pub decreases-loop-at : goal.decreases-loop-at
decreases-loop-at l = length l.s - l.at
