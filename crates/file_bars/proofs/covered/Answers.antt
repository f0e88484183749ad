-- `file_bars::covered` meets its contract. The loop's invariant: what the branches left say is the whole answer.
-- Assumes nothing.
use mathlib.Core.Path.{refl}
use native.Mathlib.Omega.{arith}
use Rattle.file_bars.proofs.Branches.{any_turn, none_left}
use Rattle.file_bars.proofs.covered.Goals as goal

pub loop-m-init : goal.loop-m-init
loop-m-init c = (omega arith, refl)

pub covers-requires : goal.covers-requires
covers-requires c = let p = c.requires in
    let l = c.loop-m in
    (p.0, (p.1.0 l.m l.invariant.0 c.loop-m-test.true, p.1.1))

pub returns-then-covers : goal.returns-then-covers
returns-then-covers c = let l = c.loop-m in
    any_turn l.m _ _ _ _ c.loop-m-test.true c.covers.ensures c.if-covers.true l.invariant.1

pub loop-m-preserved : goal.loop-m-preserved
loop-m-preserved c = let l = c.loop-m in
    let t = c.loop-m-test.true in
    (omega (arith, l.invariant.0), any_turn l.m _ _ _ _ t c.covers.ensures c.if-covers.false l.invariant.1)

pub returns : goal.returns
returns c = let l = c.loop-m in
    rw (none_left l.m _ c.loop-m-test.false) at l.invariant.1
