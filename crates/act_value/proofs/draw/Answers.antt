-- `act_value::draw` meets its contract. Assumes nothing.
use Prim.Native.Nat.{ℕ, ◌+◌, ◌-◌}
use lib.ListN.{get_or, set}
use mathlib.Core.Path.{◌∙◌, ap}
use Rattle.semantics.specs.Generator.{drawn}
use Rattle.base_i32.specs.Code.{code, value_of}
use Rattle.act_value.proofs.draw.Goals as goal

pub returns : goal.returns
returns c = let a = c.args in
    let moved = c.next_seed-new.ensures in
    let lowest = get_or a.lowest.now a.i 0 in
    let highest = lowest + get_or a.values.now a.i 0 - 1 in (
      c.drawn.ensures ∙ ap (λ (n : ℕ). code (drawn (value_of lowest) (value_of highest) n)) moved,
      ap (λ (n : ℕ). set a.seeds.now a.i n) moved,
    )
