-- `act_puts_start::free_one` meets its contract. Assumes nothing.
use native.Mathlib.Omega.{arith}
use mathlib.Core.Path.{◌∙◌}
use Rattle.row_process.specs.Process.{seen, at_first}
use Rattle.row_process.specs.Put.{process_sized}
use Rattle.act_floor.proofs.Reading.{counted, noted}
use Rattle.act_puts_start.proofs.Freeing.{wakes_now, woken_now}
use Rattle.act_puts_start.proofs.free_one.Goals as goal

pub overflow_cast-number : goal.overflow_cast-number
overflow_cast-number c = let d = c.requires.0 in omega (
  arith,
  c.number_of-number.ensures (seen (at_first d) d.given.in_places),
  (process_sized d.is c.args.r d.before).number_low,
)

pub wake-requires : goal.wake-requires
wake-requires c = let d = c.requires.0 in wakes_now d (c.clock_of-clock.ensures.0 (seen (at_first d) tt))

pub returns : goal.returns
returns c = record {
  done = woken_now c.wake.ensures (λ d. c.clock_of-clock.ensures.0 (seen (at_first d) tt));
  out_after = (λ d.
      c.write_line.ensures ∙ noted _ _ d.is 8 (c.clock_of-clock.ensures.0 (seen (at_first d)
      tt)) (c.number_of-number.ensures (seen (at_first d) d.given.in_places)) (counted _));
}
