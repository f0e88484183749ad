-- `base_ordered::take_out` meets its contract. The loop's invariant: without the place that comes free, the row is what it was
-- without the place that is taken out. Assumes nothing.
use Prim.Native.Nat.{◌-◌}
use lib.ListN.{length-set}
use mathlib.Core.Path.{◌≡◌, refl, ◌∙◌}
use native.Mathlib.Omega.{arith}
use Rattle.base_ordered.proofs.Laws.{down, cut_end}
use Rattle.base_ordered.proofs.take_out.Goals as goal

pub loop-i-init : goal.loop-i-init
loop-i-init c = (omega arith, omega arith, refl, refl)

pub loop-i-preserved : goal.loop-i-preserved
loop-i-preserved c = let l = c.loop-i in
    (omega arith, omega arith, simp length-set l.invariant.2, down l.row l.i (omega arith) ∙ l.invariant.3)

pub returns : goal.returns
returns c = let l = c.loop-i in
    let e : l.i ≡ c.args.len - 1 = omega arith in
    cut_end _ l.row c.args.len c.args.at c.requires.canon l.invariant.2 (omega arith) (rw e at l.invariant.3)
