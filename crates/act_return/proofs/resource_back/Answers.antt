-- `act_return::resource_back` meets its contract. Assumes nothing.
use native.Mathlib.Omega.{arith}
use Rattle.act_walk.proofs.Lines.{noted_long}
use Rattle.act_return.proofs.Returning.{shown, is_long, few, free_low, frees_walking, resource_stepped}
use Rattle.act_return.proofs.resource_back.Goals as goal

pub note-requires : goal.note-requires
note-requires c = let v = c.requires.returning in record {
  shown = (shown v tt, (omega (arith, c.requires.roomy), omega arith));
  number_bound = (omega (arith, (few v).1.1), omega (arith, (few v).0));
}

pub add_at-requires : goal.add_at-requires
add_at-requires c = let v = c.requires.returning in
    (omega (arith, is_long v, (few v).0), omega (arith, free_low v, (few v).1.0))

pub walk-lines-requires : goal.walk-lines-requires
walk-lines-requires c = let v = c.requires.returning in record {
  walking = frees_walking v c.add_at.ensures;
  at_in_bounds = omega (
    arith,
    c.requires.roomy,
    noted_long _ _ _ _
        (c.note.ensures (shown v tt)),
  );
}

pub returns : goal.returns
returns c = λ v. resource_stepped v c.add_at.ensures
    _ _ c.note.ensures
    c.walk-lines.ensures.0
