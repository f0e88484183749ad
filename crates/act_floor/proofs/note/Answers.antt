-- `act_floor::note` meets its contract: the line has the clock and the process's number. Assumes nothing.
use native.Mathlib.Omega.{arith}
use mathlib.Core.Path.{refl, ◌∙◌}
use Rattle.row_process.specs.Process.{seen}
use Rattle.act_floor.proofs.Reading.{number_low, noted}
use Rattle.act_floor.proofs.note.Goals as goal

pub overflow_cast-number : goal.overflow_cast-number
overflow_cast-number c = let v = c.requires.0 in
    omega (arith, c.number_of-number.ensures v, number_low v c.args.p)

pub returns : goal.returns
returns c = λ v.
    c.write_line.ensures
    ∙ noted _ _ v.is _ (c.clock_of-clock.ensures.0 (seen v tt)) (c.number_of-number.ensures v) refl
