-- `row_claim::there` meets its contract. Assumes nothing.
use Rattle.row_claim.proofs.there.Goals as goal

pub returns : goal.returns
returns c = rw c.row_of-row.ensures.0
