-- `file_check_record::in_place` meets its contract. Assumes nothing.
use borrow.Author.Tests.{eq-eqb, ne_eqb}
use Rattle.file_check_record.proofs.in_place.Goals as goal

pub returns-then-group-eq-BLOCKS : goal.returns-then-group-eq-BLOCKS
returns-then-group-eq-BLOCKS c = rw (eq-eqb _ _ c.if-group-eq-BLOCKS.true)

pub returns-then-group-eq-ACTIONS : goal.returns-then-group-eq-ACTIONS
returns-then-group-eq-ACTIONS c = rw (ne_eqb _ _ c.if-group-eq-BLOCKS.false, eq-eqb _ _ c.if-group-eq-ACTIONS.true)

pub returns : goal.returns
returns c = rw (ne_eqb _ _ c.if-group-eq-BLOCKS.false, ne_eqb _ _ c.if-group-eq-ACTIONS.false)
