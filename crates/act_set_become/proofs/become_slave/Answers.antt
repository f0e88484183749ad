-- `act_set_become::become_slave` meets its contract. Assumes nothing.
use native.Mathlib.Omega.{arith}
use Rattle.act_walk.proofs.Lines.{noted_long}
use Rattle.act_floor.specs.Onward.{shown, low, passing}
use Rattle.act_set_become.proofs.Becoming.{here, number_fits, sync_low, leaving, joining}
use Rattle.act_set_become.proofs.Becoming.{joined_walking, became}
use Rattle.act_set_become.proofs.become_slave.Goals as goal

pub number_of-number-requires : goal.number_of-number-requires
number_of-number-requires c = let v = c.requires.acting in shown (here v) (low (here v))

pub note-requires : goal.note-requires
note-requires c = let v = c.requires.acting in record {
  shown = (shown (here v) tt, (omega (arith, c.requires.roomy), omega arith));
  number_bound = (number_fits v _ c.number_of-number.ensures, omega (arith, sync_low v));
}

pub past-requires : goal.past-requires
past-requires c = passing
    (here c.requires.acting)

pub leave_floor-requires : goal.leave_floor-requires
leave_floor-requires c = leaving c.requires.acting c.past.ensures

pub join_waiting-requires : goal.join_waiting-requires
join_waiting-requires c = joining c.requires.acting
    c.past.ensures
    c.leave_floor.ensures

pub walk-lines-requires : goal.walk-lines-requires
walk-lines-requires c = let v = c.requires.acting in record {
  walking = joined_walking v c.past.ensures c.leave_floor.ensures
      c.join_waiting.ensures;
  at_in_bounds = omega (
    arith,
    c.requires.roomy,
    noted_long _ _
        _ _ (c.note.ensures (shown (here v) tt)),
  );
}

pub returns : goal.returns
returns c = λ v. became v c.past.ensures
    c.leave_floor.ensures
    c.join_waiting.ensures _ _
    c.number_of-number.ensures
    c.note.ensures
    c.walk-lines.ensures.0
