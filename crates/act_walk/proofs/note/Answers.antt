-- `act_walk::note` meets its contract. Assumes nothing.
use mathlib.Core.Path.{refl, ◌∙◌}
use Rattle.act_floor.proofs.Reading.{noted, counted}
use Rattle.act_walk.proofs.note.Goals as goal

pub returns : goal.returns
returns c = λ v. c.write_line.ensures
    ∙ noted _ _ v.is _ (c.clock_of-clock.ensures.0 v) refl (counted _)
