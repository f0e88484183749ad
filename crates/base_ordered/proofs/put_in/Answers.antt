-- `base_ordered::put_in` meets its contract. The loop's invariant: without the place that comes free, the row is what it was
-- without its first unused place. Assumes nothing.
use lib.ListN.{length-set}
use mathlib.Core.Path.{◌≡◌, refl, ◌∙◌}
use native.Mathlib.Omega.{arith}
use Rattle.base_ordered.proofs.Laws.{up, put_end}
use Rattle.base_ordered.proofs.put_in.Goals as goal

pub loop-i-init : goal.loop-i-init
loop-i-init c = (omega arith, omega arith, refl, refl)

pub loop-i-preserved : goal.loop-i-preserved
loop-i-preserved c = let l = c.loop-i in
    (omega arith, omega arith, simp length-set l.invariant.2, up l.row l.i (omega arith) (omega arith) ∙ l.invariant.3)

pub returns : goal.returns
returns c = let l = c.loop-i in
    let e : l.i ≡ c.args.at = omega arith in
    put_end _ l.row c.args.len c.args.at c.requires.canon l.invariant.2 c.args.x (omega arith) (omega arith)
    (rw e at l.invariant.3)
