-- `act_walk::enters_at` meets its contract. Assumes nothing.
use Rattle.act_walk.proofs.Reading.{entered}
use Rattle.act_walk.proofs.enters_at.Goals as goal

pub returns : goal.returns
returns c = λ v. entered v _ _ c.place_of-place.ensures c.u16_at.ensures.0
