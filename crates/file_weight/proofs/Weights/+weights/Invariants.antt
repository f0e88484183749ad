-- The methods of `file_weight::Weights` meet their contracts: four times 256 less the block number, and 0 for an action, 1 for a
-- block, 2 for a class and 3 for what an action goes to, falls from call to call. The loops' invariants: `Summed`, that what is
-- summed so far with the actions to come is the block's weight under the cap; `Went`, that the largest so far with the blocks to
-- come is the largest of all that the action goes to. Assumes nothing.
use Prim.Native.Nat.{◌+◌, ◌*◌, ◌-◌}
use Rattle.base_numbers.specs.Limit as Limit
use Rattle.file_weight.proofs.Loop.{Summed, Went}
use Rattle.file_weight.proofs.Weights.+weights.Given as goal

abbrev pub decreases-action : goal.decreases-action
decreases-action l = (Limit.BLOCKS - l.b) * 4

abbrev pub decreases-block : goal.decreases-block
decreases-block l = (Limit.BLOCKS - l.b) * 4 + 1

abbrev pub decreases-class : goal.decreases-class
decreases-class l = (Limit.BLOCKS - l.b) * 4 + 2

abbrev pub decreases-goes : goal.decreases-goes
decreases-goes l = (Limit.BLOCKS - l.b) * 4 + 3

abbrev pub invariant-action-loop-k : goal.invariant-action-loop-k
invariant-action-loop-k l = Went l.fn.self.actions l.a l.end l.fn.self.memo l.self.actions l.self.memo l.top l.k

abbrev pub invariant-block-loop-a : goal.invariant-block-loop-a
invariant-block-loop-a l = Summed l.fn.self.actions l.b l.end l.fn.self.memo l.self.actions l.self.memo l.w l.a
