-- `base_places::free_place` meets its contract: what is left of all ones has a digit where a place is free, and the lowest of
-- these is the first free place. Assumes nothing.
use Prim.Native.Nat.{◌-◌}
use lib.Count.{count_trailing_zeros, trailing_le}
use mathlib.Core.Path.{ap, ◌∙◌}
use native.Mathlib.Omega.{arith}
use Rattle.base_places.proofs.Laws.{first_free}
use Rattle.base_places.proofs.free_place.Goals as goal

pub overflow_cast-result : goal.overflow_cast-result
overflow_cast-result c = omega (arith, trailing_le 64 (18446744073709551615 - c.args.living))

pub returns : goal.returns
returns c = (
  λ ps h. ap (λ n. count_trailing_zeros 64 (18446744073709551615 - n)) h.digits ∙ rw h.places at (first_free ps),
  trailing_le 64 (18446744073709551615 - c.args.living),
)
