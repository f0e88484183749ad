-- `base_generator::drawn` meets its contract. Assumes nothing.
use native.Mathlib.Nat.{mod-lt}
use native.Mathlib.Omega.{arith}
use Rattle.base_generator.specs.Drawing.{draw_code}
use Rattle.base_generator.proofs.drawn.Goals as goal

pub overflow_cast-result : goal.overflow_cast-result
overflow_cast-result c = let b = mod-lt c.args.seed {m = c.wide.result} (omega (arith, c.wide.ensures.0, c.requires.0)) in
    omega (arith, c.wide.ensures.0)

pub overflow_add-result : goal.overflow_add-result
overflow_add-result c = let b = mod-lt c.args.seed {m = c.wide.result} (omega (arith, c.wide.ensures.0, c.requires.0)) in
    omega (arith, c.wide.ensures.0, c.requires.1)

pub returns : goal.returns
returns c = rw c.wide.ensures.0 (draw_code _ _ c.args.seed c.requires.0)
