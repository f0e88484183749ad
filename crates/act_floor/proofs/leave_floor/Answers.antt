-- `act_floor::leave_floor` meets its contract: word 3 of the work says who has the floor. Assumes nothing.
use native.Mathlib.Omega.{arith}
use mathlib.Core.Path.{◌∙◌, ap}
use lib.ListN.{set}
use Rattle.semantics.specs.State.{empty}
use Rattle.row_work.specs.Head.{floor_set}
use Rattle.row_process.specs.Process.{at_first}
use Rattle.act_floor.proofs.Reading.{is_long}
use Rattle.act_floor.proofs.leave_floor.Goals as goal

pub bounds-w-3 : goal.bounds-w-3
bounds-w-3 c = omega (arith, is_long (at_first c.requires))

pub returns : goal.returns
returns c = λ d. ap (λ l. set l 3 0) d.shows ∙ floor_set d.is empty
