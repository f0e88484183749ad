-- `text_list::write_blank` meets its contract. Assumes nothing.
use Rattle.std.proofs.Common.{arith}
use Rattle.text_list.proofs.Edits.{blanked}
use Rattle.text_list.proofs.write_blank.Goals as goal

pub loop-i-preserved : goal.loop-i-preserved
loop-i-preserved g c = let a = c.args in
    blanked a.blank a.cells.now c.loop-i.i c.loop-i.invariant (omega (arith, c.requires, c.loop-i-test.true))
