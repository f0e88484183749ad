-- `row_lists::drop_first` meets its contract: each row loses its first number. Assumes nothing.
use native.Mathlib.Omega.{arith}
use Rattle.row_lists.proofs.Events.{long, keys_canon, rekeyed_long, words_there, words_canon}
use Rattle.row_lists.proofs.Events.{rewritten_long, events_written}
use Rattle.row_lists.proofs.Leaving.{count_next, left_count, keys_out, words_out}
use Rattle.row_lists.proofs.drop_first.Goals as goal

pub bounds-w-5 : goal.bounds-w-5
bounds-w-5 c = omega (arith, long c.requires)

pub slice_bounds-take_out-end : goal.slice_bounds-take_out-end
slice_bounds-take_out-end c = omega (arith, long c.requires)

pub take_out-requires : goal.take_out-requires
take_out-requires c = let v = c.requires in record {
  canon = keys_canon v;
  at_lt_len = omega (arith, count_next v);
}

pub slice_bounds-take_out-end-2 : goal.slice_bounds-take_out-end-2
slice_bounds-take_out-end-2 c = let v = c.requires in
    omega (arith, rekeyed_long v (keys_out v c.take_out.ensures))

pub take_out-requires-2 : goal.take_out-requires-2
take_out-requires-2 c = let v = c.requires in record {
  canon = words_canon v (keys_out v c.take_out.ensures);
  at_lt_len = omega (arith, count_next v);
}

pub overflow_sub-w : goal.overflow_sub-w
overflow_sub-w c = omega (arith, count_next c.requires)

pub bounds-w-5-2 : goal.bounds-w-5-2
bounds-w-5-2 c = let v = c.requires in
    let k = keys_out v c.take_out.ensures in
    omega (arith, rewritten_long v k (words_out v (words_there v k) c.take_out-2.ensures))

pub returns : goal.returns
returns c = λ v.
    let k = keys_out v c.take_out.ensures in
    events_written v k (words_out v (words_there v k) c.take_out-2.ensures) _ (left_count v)
