-- `run_fresh::enter` meets its contract: an ENTITY's process begins, and at any other record nothing changes.
-- Assumes nothing.
use native.Mathlib.Omega.{arith}
use Rattle.run_fresh.proofs.Entering.{stays, bytes_there, class_there, beginning, entered}
use Rattle.run_fresh.proofs.enter.Goals as goal

pub u16_at-class-requires : goal.u16_at-class-requires
u16_at-class-requires c = omega (arith, bytes_there c.requires c.if-kind-eq-ENTITY.true)

pub u32_at-t-requires : goal.u32_at-t-requires
u32_at-t-requires c = omega (arith, bytes_there c.requires c.if-kind-eq-ENTITY.true)

pub bounds-map-class : goal.bounds-map-class
bounds-map-class c = class_there c.requires c.if-kind-eq-ENTITY.true c.u16_at-class.ensures.0

pub begin-requires : goal.begin-requires
begin-requires c = let d = c.requires in
    beginning d c.if-kind-eq-ENTITY.true c.u16_at-class.ensures.0 c.u32_at-t.ensures

pub returns-then-kind-eq-ENTITY : goal.returns-then-kind-eq-ENTITY
returns-then-kind-eq-ENTITY c = λ d. entered d c.if-kind-eq-ENTITY.true c.u16_at-class.ensures.0 c.u32_at-t.ensures c.begin.ensures.done

pub returns-else-kind-eq-ENTITY : goal.returns-else-kind-eq-ENTITY
returns-else-kind-eq-ENTITY c = λ d. stays d c.if-kind-eq-ENTITY.false
