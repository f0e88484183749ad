-- `row_sound_lists::place_listed` meets its contract: the counts added. Assumes nothing.
use native.Mathlib.Omega.{arith}
use Rattle.row_sound_lists.proofs.Loops.{blocked_lined}
use Rattle.row_sound_lists.proofs.place_listed.Goals as goal

pub in_queue-requires : goal.in_queue-requires
in_queue-requires c = blocked_lined c.requires.0

pub overflow_add-result : goal.overflow_add-result
overflow_add-result c = omega (
  arith,
  c.one_if.ensures.1,
  c.in_queue.ensures.1,
  c.in_events.ensures.1,
  c.owned.ensures.1,
  c.in_waiting.ensures.1,
)

pub returns : goal.returns
returns c = rw (
  c.one_if.ensures.0,
  c.in_events.ensures.0,
  c.in_queue.ensures.0,
  c.in_waiting.ensures.0,
  c.owned.ensures.0,
  c.one_if-2.ensures.0,
  c.word.ensures,
)
