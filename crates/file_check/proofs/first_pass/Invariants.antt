-- `file_check::first_pass` meets its contract. The loop's invariant: the pass from `at` on, with what was seen, is the whole
-- pass. Assumes nothing.
use Prim.Native.Nat.{◌-◌}
use lib.ListN.{length}
use mathlib.Core.Path.{◌≡◌}
use Rattle.semantics.specs.Kinds as K
use Rattle.file_reader.specs.Walk.{onward}
use Rattle.semantics.specs.Bytes.{records_from}
use Rattle.semantics.specs.Decode.{first_pass, none_seen}
use Rattle.file_check.proofs.first_pass.Given as goal

abbrev pub invariant-loop-at : goal.invariant-loop-at
invariant-loop-at l = (length l.seen ≡ K.groups) × (first_pass l.seen (onward l.s l.at) ≡ first_pass none_seen (records_from 0 l.s))

abbrev pub decreases-loop-at : goal.decreases-loop-at
decreases-loop-at l = length l.s - l.at
