-- `row_view::notice_fits` meets its contract, by the kind. Assumes nothing.
use mathlib.Core.Path.{refl}
use borrow.Author.Tests.{eq-eqb, ne_eqb}
use Rattle.row_view.proofs.notice_fits.Goals as goal

pub returns-then-x-eq-WAKES : goal.returns-then-x-eq-WAKES
returns-then-x-eq-WAKES c = rw (eq-eqb _ _ c.if-x-eq-WAKES.true) refl

pub returns : goal.returns
returns c = rw (ne_eqb _ _ c.if-x-eq-WAKES.false) c.return_fits.ensures
