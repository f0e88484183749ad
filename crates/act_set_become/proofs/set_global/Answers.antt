-- `act_set_become::set_global` meets its contract. Assumes nothing.
use native.Mathlib.Omega.{arith}
use borrow.Author.Tests.{not-true, not-false}
use borrow.Author.Rules.{rules}
use Rattle.act_floor.specs.Onward.{passing}
use Rattle.act_set_become.proofs.Setting.{valued, global_low, still, passed_long, placed_walking, value_set, valueless}
use Rattle.act_set_become.proofs.set_global.Goals as goal

pub value_in-value-requires : goal.value_in-value-requires
value_in-value-requires c = valued c.requires.setting

pub returns-then-not-value : goal.returns-then-not-value
returns-then-not-value c = λ v.
    let r = c.value_in-value in
    valueless v r.result r.ensures.value r.ensures.w_after _ _ (not-true _ c.if-not-value.true)

pub past-requires : goal.past-requires
past-requires c = let r = c.value_in-value in
    passing (still c.requires.setting r.ensures.w_after (not-false r.result.ok c.if-not-value.false))

pub overflow_add-i : goal.overflow_add-i
overflow_add-i c = omega (arith, global_low c.requires.setting)

pub set_at-requires : goal.set_at-requires
set_at-requires c = let v = c.requires.setting in
    let r = c.value_in-value in
    let yes = not-false r.result.ok c.if-not-value.false in
    omega (arith, global_low v, passed_long v r.ensures.w_after yes c.past.ensures)

pub walk-lines-requires : goal.walk-lines-requires
walk-lines-requires c = let r = c.value_in-value in
    let yes = not-false r.result.ok c.if-not-value.false in record {
      walking = placed_walking c.requires.setting r.ensures.w_after yes r.result (search rules) c.past.ensures
          c.set_at.ensures;
      at_in_bounds = omega (arith, c.requires.roomy);
    }

pub returns : goal.returns
returns c = λ v.
    let r = c.value_in-value in
    let yes = not-false r.result.ok c.if-not-value.false in
    value_set v r.ensures.w_after yes r.result (search rules) c.past.ensures c.set_at.ensures
    r.ensures.value _ _ yes c.walk-lines.ensures.0
