-- `row_slaves::sort_one` meets its contract: it goes where it is of the sync and not enough went, else it stays. Assumes
-- nothing.
use borrow.Author.Tests.{ltb-true}
use Rattle.promises.specs.Laws.{and-true}
use Rattle.row_slaves.proofs.Words.{one_goes, one_stays}
use Rattle.row_slaves.proofs.sort_one.Goals as goal

pub returns-then-x-i : goal.returns-then-x-i
returns-then-x-i c = λ len kept noted l h. let e = and-true _ _ c.if-x-i.true in one_goes l h e.0 (ltb-true _ _ e.1)

pub returns : goal.returns
returns c = λ len kept noted l h. one_stays l h c.if-x-i.false
