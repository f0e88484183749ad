-- `row_view::things_fit` meets its contract: each test is its part. Assumes nothing.
use mathlib.Core.Path.{ap₂}
use mathlib.Core.Bool.{◌&&◌}
use Rattle.row_view.proofs.things_fit.Goals as goal

pub returns : goal.returns
returns c = ap₂ ◌&&◌ c.row_fits-free.ensures
    (ap₂ ◌&&◌ c.row_fits-binned.ensures
    (ap₂ ◌&&◌ c.row_fits-values.ensures c.row_fits-counts.ensures))
