-- `row_view::process_fits` meets its contract: each test is its part. Assumes nothing.
use Rattle.row_view.proofs.Tested.{process_tested}
use Rattle.row_view.proofs.process_fits.Goals as goal

pub returns : goal.returns
returns c = process_tested _ _ c.seated.ensures
    c.row_fits-locals.ensures
    c.seated-2.ensures c.row_fits-held.ensures
    c.row_fits-frames.ensures c.row_fits.ensures
