-- `file_index::loops` meets its contract. The loop's invariant: what is found so far or found in the rest is the whole answer.
-- Assumes nothing.
use Prim.Native.Nat.{◌≤◌, ◌-◌}
use lib.ListN.{length}
use mathlib.Core.Bool.{◌||◌}
use mathlib.Core.Path.{◌≡◌}
use Rattle.file_reader.specs.Walk.{onward}
use Rattle.file_index.proofs.Records.{Fine}
use Rattle.file_index.specs.Index.{loops_from}
use Rattle.semantics.specs.Bytes.{records_from}
use Rattle.file_index.proofs.loops.Given as goal

abbrev pub invariant-loop-at : goal.invariant-loop-at
invariant-loop-at l = Fine (onward l.s l.at)
    × ((l.own ≤ l.at) × ((l.found || loops_from l.body l.own (onward l.s l.at)) ≡ loops_from l.body 0 (records_from 0 l.s)))

abbrev pub decreases-loop-at : goal.decreases-loop-at
decreases-loop-at l = length l.s - l.at
