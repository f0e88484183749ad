-- `base_places::without_place` meets its contract: the place's digit is taken off, if it was set. Assumes nothing.
use lib.Bits.{and_le_l}
use native.Mathlib.Omega.{arith}
use Rattle.base_places.proofs.Laws.{goes, place_bit}
use Rattle.base_places.proofs.without_place.Goals as goal

pub overflow_sub-result : goal.overflow_sub-result
overflow_sub-result c = and_le_l _ _

pub returns : goal.returns
returns c = λ ps q h e.
    rw (place_bit c.args.p c.requires, h.digits)
    (omega (arith, goes ps c.args.p q (omega (arith, c.requires)) e))
