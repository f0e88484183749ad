-- `base_i32::add` meets its contract. Assumes nothing.
use lib.IntN.{◌+ℤ◌}
use Rattle.base_i32.proofs.Sums.{sum_at}
use Rattle.base_i32.specs.Code.{value_of}
use Rattle.base_i32.proofs.add.Goals as goal

pub returns : goal.returns
returns c = let a = c.args in
    c.in_range.ensures (value_of a.x +ℤ value_of a.y)
    (rw (c.wide.ensures.0, c.wide-2.ensures.0) (sum_at a.x a.y))
