-- `file_check::second_pass` meets its contract. The loop's invariant: from `at` on the records have passed 1 to 7, and the pass
-- over them, behind `own` BLOCKs, is the whole pass. Assumes nothing.
use Prim.Native.Nat.{◌-◌, ◌≤◌}
use lib.ListN.{length}
use mathlib.Core.Path.{◌≡◌}
use Rattle.semantics.specs.Numbers as No
use Rattle.file_reader.specs.Walk.{onward}
use Rattle.file_index.proofs.Records.{Fine}
use Rattle.semantics.specs.Bytes.{records_from}
use Rattle.semantics.specs.Decode.{second_pass}
use Rattle.file_check.proofs.second_pass.Given as goal

abbrev pub invariant-loop-at : goal.invariant-loop-at
invariant-loop-at l = Fine (onward l.s l.at) × ((l.own ≤ l.at) × ((length l.s ≤ No.longest_file) ×
    (second_pass l.n l.own (onward l.s l.at) ≡ second_pass l.n 0 (records_from 0 l.s))))

abbrev pub decreases-loop-at : goal.decreases-loop-at
decreases-loop-at l = length l.s - l.at
