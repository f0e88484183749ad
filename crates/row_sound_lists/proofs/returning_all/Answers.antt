-- `row_sound_lists::returning_all` meets its contract: turn by turn. Assumes nothing.
use native.Mathlib.Omega.{arith}
use Rattle.row_sound_lists.proofs.Loops.{tally_none, tally_on, tally_done}
use Rattle.row_sound_lists.proofs.returning_all.Goals as goal

pub loop-k-init : goal.loop-k-init
loop-k-init c = (omega arith, omega arith, tally_none _)

pub loop-k-preserved : goal.loop-k-preserved
loop-k-preserved c = let l = c.loop-k in (
  omega arith,
  omega (arith, c.returning_at-found.ensures.1),
  tally_on _ l.k _ _ c.returning_at-found.ensures.0 l.invariant.2,
)

pub returns : goal.returns
returns c = let l = c.loop-k in
    (tally_done _ l.k _ _ (omega arith) l.invariant.2, omega (arith, c.requires.events_few))
