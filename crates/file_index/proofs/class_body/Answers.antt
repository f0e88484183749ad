-- `file_index::class_body` meets its contract, by cases. Assumes nothing.
use borrow.Author.Tests.{eq-eqb, ne_eqb}
use Rattle.file_index.proofs.class_body.Goals as goal

pub pair_at-requires : goal.pair_at-requires
pair_at-requires c = c.requires c.if-kind-eq-CLASS.true

pub returns-then-kind-eq-CLASS : goal.returns-then-kind-eq-CLASS
returns-then-kind-eq-CLASS c = rw (eq-eqb _ _ c.if-kind-eq-CLASS.true) c.pair_at.ensures

pub returns-else-kind-eq-CLASS : goal.returns-else-kind-eq-CLASS
returns-else-kind-eq-CLASS c = rw (ne_eqb _ _ c.if-kind-eq-CLASS.false)
