-- `act_do_close::set_closed` meets its contract: word 1 of the work says whether the run is closed. Assumes nothing.
use native.Mathlib.Omega.{arith}
use mathlib.Core.Path.{◌∙◌, ap}
use lib.ListN.{set}
use Rattle.row_work.specs.Head.{closed_set}
use Rattle.row_process.specs.Process.{at_first}
use Rattle.act_floor.proofs.Reading.{is_long}
use Rattle.act_do_close.proofs.set_closed.Goals as goal

pub bounds-w-1 : goal.bounds-w-1
bounds-w-1 c = omega (arith, is_long (at_first c.requires))

pub returns : goal.returns
returns c = λ d. ap (λ l. set l 1 1) d.shows ∙ closed_set d.is
