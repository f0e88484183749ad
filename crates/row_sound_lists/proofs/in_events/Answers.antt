-- `row_sound_lists::in_events` meets its contract: turn by turn. Assumes nothing.
use native.Mathlib.Omega.{arith}
use mathlib.Core.Path.{◌∙◌}
use Rattle.row_sound_lists.proofs.Loops.{tally_none, tally_on, tally_done}
use Rattle.row_sound_lists.proofs.in_events.Goals as goal

pub loop-k-init : goal.loop-k-init
loop-k-init c = (omega arith, omega arith, tally_none _)

pub loop-k-preserved : goal.loop-k-preserved
loop-k-preserved c = let l = c.loop-k in (
  omega arith,
  omega (arith, c.one_if-found.ensures.1),
  tally_on _ l.k _ _ (c.one_if-found.ensures.0 ∙ rw (← c.kind_of.ensures.0, ← c.number_of.ensures.0))
      l.invariant.2,
)

pub returns : goal.returns
returns c = let l = c.loop-k in
    (tally_done _ l.k _ _ (omega arith) l.invariant.2, omega (arith, c.requires.events_few))
