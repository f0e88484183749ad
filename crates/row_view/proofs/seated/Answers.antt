-- `row_view::seated` meets its contract. Assumes nothing.
use Rattle.row_view.proofs.Walks.{seats}
use Rattle.row_view.proofs.seated.Goals as goal

pub returns-else-d-eq0 : goal.returns-else-d-eq0
returns-else-d-eq0 c = seats _ _ c.if-d-eq0.false
