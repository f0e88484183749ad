-- `row_slaves::sort_out` meets its contract: what is cleared stands behind those that stay. Assumes nothing.
use Rattle.row_slaves.proofs.Words.{cleared}
use borrow.Author.Rules.{rules}
use Rattle.row_slaves.proofs.sort_out.Goals as goal

pub returns : goal.returns
returns c = cleared c.sift-left.ensures (search rules) c.clear.ensures
