-- `run_lent::open_run` meets its contract: a run is opened in a row of zeros, and packed. Assumes nothing.
use Rattle.run_lent.proofs.Opens.{opened_told}
use Rattle.run_lent.proofs.open_run.Goals as goal

pub returns : goal.returns
returns c = let p = c.pack-state in
    rw (c.told-number.ensures.number, c.told-number.ensures.place)
    (opened_told _ _ p.result p.ensures.result_value p.ensures.full _ c.open_row-opened.ensures)
