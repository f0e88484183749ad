-- `file_index::opened` meets its contract: a BLOCK opens one more. Assumes nothing.
use borrow.Author.Tests.{eq-eqb, ne_eqb}
use native.Mathlib.Numerals.{add-one}
use Rattle.file_index.proofs.opened.Goals as goal

pub returns-then-kind-eq-BLOCK : goal.returns-then-kind-eq-BLOCK
returns-then-kind-eq-BLOCK c = rw (eq-eqb _ _ c.if-kind-eq-BLOCK.true, add-one)

pub returns-else-kind-eq-BLOCK : goal.returns-else-kind-eq-BLOCK
returns-else-kind-eq-BLOCK c = rw (ne_eqb _ _ c.if-kind-eq-BLOCK.false)
