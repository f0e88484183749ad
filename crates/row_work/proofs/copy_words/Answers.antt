-- `row_work::copy_words` meets its contract. The loop's invariant: the first i stand copied. Assumes nothing.
use native.Mathlib.Omega.{arith}
use Rattle.row_work.proofs.Copies.{copied_none, copied_one, copied_all}
use Rattle.row_work.proofs.copy_words.Goals as goal

pub loop-i-init : goal.loop-i-init
loop-i-init c = copied_none _ _ c.requires

pub loop-i-preserved : goal.loop-i-preserved
loop-i-preserved c = let l = c.loop-i in
    copied_one _ _ c.requires l.to l.i l.invariant (omega arith)

pub returns : goal.returns
returns c = let l = c.loop-i in copied_all _ _ c.requires l.to l.i l.invariant (omega arith)
