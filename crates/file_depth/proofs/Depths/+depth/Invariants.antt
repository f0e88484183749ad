-- `file_depth::Depths::depth` meets its contract: 256 less the block number falls from call to call. The loop's invariant,
-- `Looped`: the blocks are the same, and the largest depth so far with that of the blocks to come is the largest of all that
-- are named. Assumes nothing.
use Prim.Native.Nat.{◌-◌}
use Rattle.base_numbers.specs.Limit as Limit
use Rattle.file_depth.proofs.Loop.{Looped}
use Rattle.file_depth.proofs.Depths.+depth.Given as goal

abbrev pub decreases-depth : goal.decreases-depth
decreases-depth l = Limit.BLOCKS - l.b

abbrev pub invariant-loop-k : goal.invariant-loop-k
invariant-loop-k l = Looped l.fn.self.blocks l.b l.end l.fn.self.memo l.self.blocks l.self.memo l.d l.k
