-- `file_check::third_pass` meets its contract. The loop's invariant, `Turn`: the memo is right, and the pass from `at` on is the
-- whole pass. Assumes nothing.
use Prim.Native.Nat.{◌-◌}
use lib.ListN.{length}
use Rattle.file_check.proofs.Deep.{Turn}
use Rattle.file_check.proofs.third_pass.Given as goal

abbrev pub invariant-loop-at : goal.invariant-loop-at
invariant-loop-at l = Turn l.s l.depths.blocks.first.now l.depths.blocks.from.now l.depths.blocks.goes.now l.depths.blocks.count l.at

abbrev pub decreases-loop-at : goal.decreases-loop-at
decreases-loop-at l = length l.s - l.at
