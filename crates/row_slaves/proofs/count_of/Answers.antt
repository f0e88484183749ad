-- `row_slaves::count_of` meets its contract. The loop's invariant: those found and those to be found behind are the whole
-- answer. Assumes nothing.
use borrow.Author.Tests.{eq-eqb, ne_eqb}
use native.Mathlib.Nat.{zero-add}
use native.Mathlib.Omega.{arith}
use Rattle.row_slaves.proofs.Words.{found_one, found_none, counted_all}
use Rattle.row_slaves.proofs.count_of.Goals as goal
use Rattle.row_slaves.proofs.count_of.Goals.{then-row-k, else-row-k}

pub loop-k-init : goal.loop-k-init
loop-k-init c = (omega arith, omega arith, zero-add _)

pub loop-k-preserved : goal.loop-k-preserved
loop-k-preserved c = let l = c.loop-k in
    elim c.if-row-k.branch [
      | then-row-k w ↦ (
        omega arith,
        omega arith,
        rw w.found-is (found_one _ _ c.requires _ _ l.k l.found (omega arith) (eq-eqb _ _ w.if-row-k.true) l.invariant.2),
      )
      | else-row-k w ↦ (
        omega arith,
        omega arith,
        rw w.found-is (found_none _ _ c.requires _ _ l.k l.found (omega arith) (ne_eqb _ _ w.if-row-k.false) l.invariant.2),
      )
    ]

pub returns : goal.returns
returns c = let l = c.loop-k in
    counted_all _ _ c.requires _ _ l.k l.found (omega arith) l.invariant.2
