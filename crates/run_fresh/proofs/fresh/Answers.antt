-- `run_fresh::fresh` meets its contract: what each part leaves is what the next one asks for. Assumes nothing.
use Rattle.run_fresh.proofs.Loading.{beginning, begun}
use Rattle.run_fresh.proofs.fresh.Goals as goal

pub begin_all-requires : goal.begin_all-requires
begin_all-requires c = beginning c.requires c.vacate_all.ensures c.declare.ensures

pub returns : goal.returns
returns c = λ d. begun d c.vacate_all.ensures c.declare.ensures c.begin_all.ensures
