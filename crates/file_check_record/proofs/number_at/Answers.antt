-- `file_check_record::number_at` meets its contract. Assumes nothing.
use borrow.Author.Tests.{eq-eqb, ne_eqb}
use Rattle.file_check_record.proofs.number_at.Goals as goal

pub returns-then-size-eq4 : goal.returns-then-size-eq4
returns-then-size-eq4 c = rw (eq-eqb _ _ c.if-size-eq4.true) c.u32_at.ensures

pub returns-then-size-eq2 : goal.returns-then-size-eq2
returns-then-size-eq2 c = rw (ne_eqb _ _ c.if-size-eq4.false, eq-eqb _ _ c.if-size-eq2.true) c.u16_at.ensures.0

pub returns : goal.returns
returns c = rw (ne_eqb _ _ c.if-size-eq4.false, ne_eqb _ _ c.if-size-eq2.false)
