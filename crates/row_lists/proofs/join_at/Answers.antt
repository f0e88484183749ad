-- `row_lists::join_at` meets its contract. Assumes nothing.
use native.Mathlib.Omega.{arith}
use Rattle.row_lists.proofs.Queues.{here_canon, here_wide, joined}
use Rattle.row_lists.proofs.join_at.Goals as goal

pub put_in-requires : goal.put_in-requires
put_in-requires c = let d = c.requires in
    let q = d.seeking.queue in record {
      canon = here_canon q;
      at_le_len = (
        omega (arith, q.count_is, (c.place_behind-at.ensures d.seeking).in_line),
        omega (arith, here_wide q, q.count_is, d.room),
      );
    }

pub returns : goal.returns
returns c = λ d.
    joined d _ _ (c.place_behind-at.ensures d.seeking).place_is
    c.put_in.ensures
