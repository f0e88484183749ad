-- `act_step::wakes` meets its contract: a fault gives the floor back. Assumes nothing.
use native.Mathlib.Omega.{arith}
use mathlib.Core.Path.{◌∙◌}
use Rattle.act_step.proofs.Waking.{floored, work_is_long, place_low, kept_floor, left_floor}
use Rattle.act_step.proofs.wakes.Goals as goal

pub overflow_add-p : goal.overflow_add-p
overflow_add-p c = omega (arith, place_low c.requires.waking)

pub set_floor-requires : goal.set_floor-requires
set_floor-requires c = work_is_long c.requires.waking

pub moves-went-requires : goal.moves-went-requires
moves-went-requires c = record {
  floored = floored c.requires.waking c.set_floor.ensures;
  roomy = c.requires.roomy;
}

pub set_floor-requires-then-went-ne0 : goal.set_floor-requires-then-went-ne0
set_floor-requires-then-went-ne0 c = let v = c.requires.waking in
    c.w-2-1.given ∙ c.w-1.given ∙ work_is_long v

pub returns-then-went-ne0 : goal.returns-then-went-ne0
returns-then-went-ne0 c = λ v.
    let e = c.set_floor.ensures in
    left_floor v e _ _ _ _ _ _ (c.moves-went.ensures (floored v e)) c.if-went-ne0.true c.set_floor-then-went-ne0.ensures

pub returns-else-went-ne0 : goal.returns-else-went-ne0
returns-else-went-ne0 c = λ v.
    let e = c.set_floor.ensures in
    kept_floor v e _ _ _ _ _ _ (c.moves-went.ensures (floored v e)) c.if-went-ne0.false
