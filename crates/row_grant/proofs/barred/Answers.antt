-- `row_grant::barred` meets its contract. The loop's invariant: one of the first k bars if one from the i-th on does.
-- Assumes nothing.
use Prim.Native.Nat.{◌+◌}
use native.Mathlib.Omega.{arith}
use mathlib.Core.Path.{refl}
use Rattle.row_grant.proofs.Facing.{nearer, one_bars, one_not, none_bars}
use Rattle.row_grant.proofs.barred.Goals as goal

pub loop-i-init : goal.loop-i-init
loop-i-init c = (omega arith, λ v. refl)

pub bars_at-requires : goal.bars_at-requires
bars_at-requires c = let v = c.requires in
    nearer v (c.loop-i.i + 1) (omega (arith, c.loop-i-test.true))

pub returns-then-bars_at : goal.returns-then-bars_at
returns-then-bars_at c = λ v.
    let l = c.loop-i in
    one_bars v _ c.loop-i-test.true _ c.bars_at.ensures (l.invariant.1 v) c.if-bars_at.true

pub overflow_add-i : goal.overflow_add-i
overflow_add-i c = omega (arith, c.loop-i-test.true)

pub loop-i-smaller : goal.loop-i-smaller
loop-i-smaller c = omega (arith, c.loop-i-test.true)

pub loop-i-preserved : goal.loop-i-preserved
loop-i-preserved c = let l = c.loop-i in
    let t = c.loop-i-test.true in (
      omega (arith, t),
      λ v. one_not v _ t _ c.bars_at.ensures (l.invariant.1 v) c.if-bars_at.false,
    )

pub returns : goal.returns
returns c = λ v. none_bars v _ c.loop-i.invariant.0 c.loop-i-test.false (c.loop-i.invariant.1 v)
