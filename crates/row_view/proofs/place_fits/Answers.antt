-- `row_view::place_fits` meets its contract. Assumes nothing.
use Rattle.row_view.proofs.Tested.{place_tested}
use Rattle.row_view.proofs.place_fits.Goals as goal

pub returns : goal.returns
returns c = place_tested _ _ _ c.seated-lives.ensures c.process_fits.ensures
