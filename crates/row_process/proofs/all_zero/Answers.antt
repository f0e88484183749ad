-- `row_process::all_zero` meets its contract. The loop's invariant: what was found so far and what is left to be found are the
-- whole answer. Assumes nothing.
use mathlib.Core.Path.{refl}
use native.Mathlib.Omega.{arith}
use Rattle.row_process.proofs.Zeros.{one_more, no_more}
use Rattle.row_process.proofs.all_zero.Goals as goal

pub loop-i-init : goal.loop-i-init
loop-i-init c = (omega arith, refl)

pub loop-i-preserved : goal.loop-i-preserved
loop-i-preserved c = let l = c.loop-i in
    (omega arith, one_more l.zero _ _ l.i c.loop-i-test.true l.invariant.1)

pub returns : goal.returns
returns c = let l = c.loop-i in no_more l.zero _ _ l.i (omega arith) l.invariant.1
