-- `act_return::bin_back` meets its contract. Assumes nothing.
use native.Mathlib.Omega.{arith}
use Rattle.act_walk.proofs.Lines.{noted_long}
use Rattle.act_return.proofs.Returning.{shown, is_long, bin_known, bin_few, too_full, bin_fits, fills_walking}
use Rattle.act_return.proofs.Returning.{bin_stepped}
use Rattle.act_return.proofs.bin_back.Goals as goal

pub bin_of-requires : goal.bin_of-requires
bin_of-requires c = let v = c.requires.returning in shown v (bin_known v)

pub returns-then-bin_of-n-gt-FULL_BIN : goal.returns-then-bin_of-n-gt-FULL_BIN
returns-then-bin_of-n-gt-FULL_BIN c = λ v. too_full v _ c.bin_of.ensures.0 _ _ c.if-bin_of-n-gt-FULL_BIN.true

pub note-requires : goal.note-requires
note-requires c = let v = c.requires.returning in record {
  shown = (
    shown v tt,
    (
      omega (arith, c.requires.roomy),
      omega arith,
    ),
  );
  number_bound = (omega (arith, (bin_few v).1.1), omega (arith, (bin_few v).0));
}

pub add_at-requires : goal.add_at-requires
add_at-requires c = let v = c.requires.returning in (
  omega (arith, is_long v, (bin_few v).0),
  omega (
    arith,
    bin_fits v _ c.bin_of.ensures.0
        c.if-bin_of-n-gt-FULL_BIN.false,
  ),
)

pub walk-lines-requires : goal.walk-lines-requires
walk-lines-requires c = let v = c.requires.returning in record {
  walking = fills_walking v _ c.bin_of.ensures.0 c.if-bin_of-n-gt-FULL_BIN.false c.add_at.ensures;
  at_in_bounds = omega (
    arith,
    c.requires.roomy,
    noted_long _ _ _ _
        (c.note.ensures (shown v tt)),
  );
}

pub returns : goal.returns
returns c = λ v. bin_stepped v _ c.bin_of.ensures.0
    c.if-bin_of-n-gt-FULL_BIN.false c.add_at.ensures
    _ _ c.note.ensures c.walk-lines.ensures.0
