-- `row_lists::place_in_front` meets its contract. Assumes nothing.
use Rattle.row_lists.specs.Lists.{waiter_of}
use Rattle.row_lists.proofs.Waiting.{blocked_queue}
use Rattle.row_lists.proofs.place_in_front.Goals as goal

pub place_behind-requires : goal.place_behind-requires
place_behind-requires c = let v = c.requires in
    record {
      line = v.is.blocked;
      queue = blocked_queue v;
      who = waiter_of v.is c.args.p;
      key_is = c.waiter_key-key.ensures v;
    }

pub returns : goal.returns
returns c = λ v. let f = c.place_behind.ensures
    (record {
      line = v.is.blocked;
      queue = blocked_queue v;
      who = waiter_of v.is c.args.p;
      key_is = c.waiter_key-key.ensures v;
    }) in
    (f.place_is, f.in_line)
