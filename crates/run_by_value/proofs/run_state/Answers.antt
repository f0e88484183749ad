-- `run_by_value::run_state` meets its contract: the struct is unpacked, its row is called, and what the call leaves is packed.
-- In what follows k is the place after the call, and u after the unpacking. Assumes nothing.
use Rattle.run_by_value.proofs.Moves.{moved_says}
use Rattle.run_by_value.proofs.run_state.Goals as goal

pub returns : goal.returns
returns c = record {
  tells_moved = moved_says _ _ _ _ _ _ _ _ c.unpack.ensures.w_after c.run_row-ran.ensures c.pack-left.ensures.result_value c.pack-left.ensures.full;
  full = c.unpack.ensures.full;
}
