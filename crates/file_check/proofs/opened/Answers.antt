-- `file_check::opened` meets its contract. Assumes nothing.
use borrow.Author.Tests.{eq-eqb, ne_eqb}
use native.Mathlib.Numerals.{add-one}
use native.Mathlib.Omega.{arith}
use Rattle.file_check.proofs.opened.Goals as goal

pub returns-then-kind-eq-BLOCK : goal.returns-then-kind-eq-BLOCK
returns-then-kind-eq-BLOCK c = (rw (eq-eqb _ _ c.if-kind-eq-BLOCK.true, add-one), omega arith)

pub returns-else-kind-eq-BLOCK : goal.returns-else-kind-eq-BLOCK
returns-else-kind-eq-BLOCK c = (rw (ne_eqb _ _ c.if-kind-eq-BLOCK.false), omega arith)
