-- `row_lists::put_event` meets its contract: keys and words are rows of one list, and each gets its number at the same place.
-- Assumes nothing.
use native.Mathlib.Omega.{arith}
use Rattle.row_lists.proofs.Events.{keys_wide, words_wide, long, count_is, keys_there, keys_canon}
use Rattle.row_lists.proofs.Events.{rekeyed_long, words_there}
use Rattle.row_lists.proofs.Events.{words_canon, rewritten_long, events_written, more_count, keys_put, words_put}
use Rattle.row_lists.proofs.put_event.Goals as goal

pub bounds-w-5 : goal.bounds-w-5
bounds-w-5 c = omega (arith, long c.requires.shown)

pub slice_bounds-put_in-end : goal.slice_bounds-put_in-end
slice_bounds-put_in-end c = omega (arith, long c.requires.shown)

pub put_in-requires : goal.put_in-requires
put_in-requires c = let v = c.requires.shown in record {
  canon = keys_canon v;
  at_le_len = (omega (arith, count_is v, v.given.0), omega (arith, keys_wide (keys_there v), count_is v, v.given.1));
}

pub slice_bounds-put_in-end-2 : goal.slice_bounds-put_in-end-2
slice_bounds-put_in-end-2 c = let d = c.requires in
    omega (arith, rekeyed_long d.shown (keys_put d c.put_in.ensures))

pub put_in-requires-2 : goal.put_in-requires-2
put_in-requires-2 c = let d = c.requires in
    let v = d.shown in
    let k = keys_put d c.put_in.ensures in
    let wide = words_wide (words_there v k) in record {
      canon = words_canon v k;
      at_le_len = (omega (arith, count_is v, v.given.0), omega (arith, wide, count_is v, v.given.1));
    }

pub overflow_add-w : goal.overflow_add-w
overflow_add-w c = let v = c.requires.shown in
    omega (arith, count_is v, v.given.1)

pub bounds-w-5-2 : goal.bounds-w-5-2
bounds-w-5-2 c = let d = c.requires in
    let k = keys_put d c.put_in.ensures in
    omega (arith, rewritten_long d.shown k (words_put d (words_there d.shown k) c.put_in-2.ensures))

pub returns : goal.returns
returns c = λ d.
    let k = keys_put d c.put_in.ensures in
    events_written d.shown k (words_put d (words_there d.shown k) c.put_in-2.ensures) _ (more_count d)
