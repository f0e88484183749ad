-- `row_slaves::clear` meets its contract. The loop's invariant: up to k the row is its front, and zeros. Assumes nothing.
use mathlib.Core.Path.{refl, ◌∙◌}
use native.Mathlib.Omega.{arith}
use lib.ListN.{length-set}
use Rattle.row_slaves.proofs.Words.{none_zero, one_zero, all_zero}
use Rattle.row_slaves.proofs.clear.Goals as goal

pub loop-k-init : goal.loop-k-init
loop-k-init c = (omega arith, omega arith, refl, none_zero c.args.row.now c.args.from)

pub loop-k-smaller : goal.loop-k-smaller
loop-k-smaller c = omega (arith, length-set c.loop-k.row c.loop-k.k 0)

pub loop-k-preserved : goal.loop-k-preserved
loop-k-preserved c = let l = c.loop-k in
    let a = c.args in (
      omega arith,
      omega (arith, length-set l.row l.k 0),
      length-set l.row l.k 0 ∙ l.invariant.2,
      one_zero a.row.now l.row a.from l.k (omega arith) (omega arith) l.invariant.3,
    )

pub returns : goal.returns
returns c = let l = c.loop-k in
    let a = c.args in
    all_zero a.row.now l.row a.from l.k (omega arith) (omega arith) l.invariant.2 l.invariant.3
