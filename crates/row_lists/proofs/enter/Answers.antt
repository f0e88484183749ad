-- `row_lists::enter` meets its contract: the place that the key finds is the one where document 01 inserts the event.
-- Assumes nothing.
use native.Mathlib.Omega.{arith}
use mathlib.Core.Path.{◌∙◌, ap}
use Rattle.semantics.specs.State.{with_events}
use Rattle.row_work.specs.Work.{work_of}
use Rattle.row_process.specs.Process.{at_first}
use Rattle.row_lists.proofs.Events.{long, keys_canon}
use Rattle.row_lists.proofs.Entering.{key_low, place_is, puts_in}
use Rattle.row_lists.proofs.enter.Goals as goal

pub bounds-w-5 : goal.bounds-w-5
bounds-w-5 c = omega (arith, long (at_first c.requires.doing))

pub slice_bounds-place_below-end : goal.slice_bounds-place_below-end
slice_bounds-place_below-end c = omega (arith, long (at_first c.requires.doing))

pub overflow_add-key : goal.overflow_add-key
overflow_add-key c = omega (arith, key_low c.requires)

pub place_below-at-requires : goal.place_below-at-requires
place_below-at-requires c = keys_canon (at_first c.requires.doing)

pub put_event-requires : goal.put_event-requires
put_event-requires c = let f = c.place_below-at.ensures in
    puts_in c.requires f.0 f.1

pub returns : goal.returns
unfolding puts_in
returns c = λ d. let f = c.place_below-at.ensures in
    c.put_event.ensures (puts_in d f.0 f.1)
    ∙ ap (λ l. work_of (with_events d.doing.is l)) (place_is d f.0)
