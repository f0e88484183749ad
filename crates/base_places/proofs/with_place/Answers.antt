-- `base_places::with_place` meets its contract: the place's digit is set, whatever it was. Assumes nothing.
use native.Mathlib.Omega.{arith}
use Rattle.base_places.proofs.Laws.{comes, place_bit}
use Rattle.base_places.proofs.with_place.Goals as goal

pub returns : goal.returns
returns c = λ ps q h e. rw (place_bit c.args.p c.requires, h.digits) (comes ps c.args.p q (omega (arith, c.requires)) e)
