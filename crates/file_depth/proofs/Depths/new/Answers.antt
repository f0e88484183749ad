-- `file_depth::Depths::new` meets its contract: nothing is known yet. Assumes nothing.
use Rattle.file_depth.proofs.Laws.{known_none}
use Rattle.file_depth.proofs.Depths.new.Goals as goal

pub invariant_of-result : goal.invariant_of-result
invariant_of-result c = record { known = known_none _ _ c.args.blocks.graph.laid.few }
