-- `row_lists::take_waiting` meets its contract: the first word has the place. Assumes nothing.
use native.Mathlib.Omega.{arith}
use Rattle.row_process.specs.Process.{at_first}
use Rattle.row_lists.proofs.Waiting.{waiting_queue, leaves_waiting, waiting_left, first_place}
use Rattle.row_lists.proofs.take_waiting.Goals as goal

pub bounds-w-i : goal.bounds-w-i
bounds-w-i c = let d = c.requires in
    let q = waiting_queue (at_first d) _ d.given.there in
    omega (arith, q.long, q.row_in)

pub leave_at-requires : goal.leave_at-requires
leave_at-requires c = leaves_waiting _ c.requires

pub returns : goal.returns
unfolding leaves_waiting
returns c = λ d.
    record {
      place_is = first_place _ d;
      place_low = omega arith;
      done = waiting_left _ d _ (c.leave_at.ensures (leaves_waiting _ d));
    }
