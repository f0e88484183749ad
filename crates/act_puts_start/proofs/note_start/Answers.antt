-- `act_puts_start::note_start` meets its contract. Assumes nothing.
use mathlib.Core.Path.{◌∙◌}
use native.Mathlib.Omega.{arith}
use Rattle.act_floor.proofs.Reading.{counted, noted}
use Rattle.act_puts_start.proofs.note_start.Goals as goal

pub returns : goal.returns
returns c = λ v. c.write_line.ensures ∙ noted _ _ v.is 1 (c.clock_of-clock.ensures.0 v) (omega (
  arith,
  c.last_of.ensures.0 v,
)) (counted _)
