-- `row_view::row_fits` meets its contract, in the row's two parts. Assumes nothing.
use native.Mathlib.Omega.{arith}
use Rattle.row_view.proofs.Walks.{too_short, two_parts}
use Rattle.row_view.proofs.row_fits.Goals as goal

pub returns-then-row-k : goal.returns-then-row-k
returns-then-row-k c = too_short _ _ _ (omega arith)

pub returns : goal.returns
returns c = two_parts _ _ _ (omega arith) c.words_fit.ensures c.words_fit-2.ensures
