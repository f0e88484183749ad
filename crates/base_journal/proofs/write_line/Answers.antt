-- `base_journal::write_line` meets its contract: five parts, each stored where the one before it ends. Assumes nothing.
use mathlib.Core.Path.{◌∙◌, ap}
use mathlib.Core.List.{◌++◌}
use Prim.Native.Nat.{◌+◌, ◌*◌}
use lib.Seq.{sets}
use Rattle.semantics.specs.Journal.{le16, le32, twos, line_bytes}
use Rattle.base_numbers.specs.Line as Line
use Rattle.base_i32.specs.Code.{value_of}
use Rattle.base_journal.proofs.Stores.{stored_on}
use Rattle.base_journal.proofs.write_line.Goals as goal

pub returns : goal.returns
unfolding line_bytes
returns c = let a = c.args in
    let at = Line.BYTES * a.at in
    let two = le16 Line.LENGTH ++ le16 a.kind in
    let three = two ++ le32 a.time in
    let four = three ++ le32 a.process in
    let code = ap (λ n. sets c.write_32-2.new.out (at + Line.VALUE_AT) (le32 n)) c.to_twos.ensures in
    stored_on a.out.now at four (le32 (twos (value_of a.value)))
    (stored_on a.out.now at three (le32 a.process)
    (stored_on a.out.now at two (le32 a.time)
    (stored_on a.out.now at (le16 Line.LENGTH) (le16 a.kind) c.write_16.ensures c.write_16-2.ensures)
    c.write_32.ensures)
    c.write_32-2.ensures)
    (c.write_32-3.ensures ∙ code)
