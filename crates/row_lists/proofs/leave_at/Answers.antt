-- `row_lists::leave_at` meets its contract. Assumes nothing.
use native.Mathlib.Omega.{arith}
use Rattle.row_lists.proofs.Queues.{here_canon, parted}
use Rattle.row_lists.proofs.leave_at.Goals as goal

pub take_out-requires : goal.take_out-requires
take_out-requires c = let d = c.requires in record {
  canon = here_canon d.queue;
  at_lt_len = omega (arith, d.queue.count_is, d.in_line);
}

pub returns : goal.returns
returns c = λ d. parted d _ c.take_out.ensures
