-- `file_bound::total` meets its contract. The loop's invariant, `Going`: what is summed so far with what the ENTITY records to
-- come weigh is the bound, under the cap. Assumes nothing.
use Prim.Native.Nat.{◌-◌}
use lib.ListN.{length}
use Rattle.file_bound.proofs.Loop.{Going}
use Rattle.file_bound.proofs.total.Given as goal

abbrev pub invariant-loop-at : goal.invariant-loop-at
invariant-loop-at l = let s = l.weights.actions in
    Going l.s l.body s.blocks.first.now s.blocks.from.now s.blocks.goes.now s.own.now s.times.now s.blocks.count l.w l.at

abbrev pub decreases-loop-at : goal.decreases-loop-at
decreases-loop-at l = length l.s - l.at
