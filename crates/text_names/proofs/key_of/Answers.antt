-- `key_of` goes on with the next byte, and ends behind the last.
use Rattle.std.proofs.Common.{arith, drop-cons, drop_of_length-le}
use Rattle.std.proofs.Math.Numerals.{add-one}
use Rattle.text_names.specs.Table.{key_of}
use Rattle.text_names.proofs.key_of.Goals as goal

pub loop-byte-preserved : goal.loop-byte-preserved
unfolding key_of
loop-byte-preserved c =
    let l = c.loop-byte in (
      omega arith,
      rw (add-one l.byte-index) (rw c.from.ensures (rw (drop-cons c.args.name.now l.byte-index 0 c.loop-byte-test.true) at l.invariant.1)),
    )

pub returns : goal.returns
unfolding key_of
returns c =
    let l = c.loop-byte in
    rw (drop_of_length-le c.args.name.now c.loop-byte-test.false) at l.invariant.1
