-- `act_block_end::at_while` meets its contract: the map has the place of the record where the process stands. Assumes nothing.
use native.Mathlib.Omega.{arith}
use Rattle.act_block_end.proofs.Leaving.{its_work, block_few, action_low, action_few, its_record, its_kind}
use Rattle.act_block_end.proofs.at_while.Goals as goal

pub block_at-requires : goal.block_at-requires
block_at-requires c = its_work c.requires

pub number_at-first-requires : goal.number_at-first-requires
number_at-first-requires c = block_few c.requires c.block_at.ensures

pub standing_at-requires : goal.standing_at-requires
standing_at-requires c = its_work c.requires

pub overflow_add-action : goal.overflow_add-action
overflow_add-action c = let b = c.block_at.ensures in
    omega (arith, action_low c.requires b c.number_at-first.ensures c.standing_at.ensures)

pub overflow_add-action-2 : goal.overflow_add-action-2
overflow_add-action-2 c = let b = c.block_at.ensures in
    omega (arith, action_low c.requires b c.number_at-first.ensures c.standing_at.ensures)

pub number_at-place-requires : goal.number_at-place-requires
number_at-place-requires c = let b = c.block_at.ensures in
    action_few c.requires b c.number_at-first.ensures c.standing_at.ensures

pub overflow_add-place : goal.overflow_add-place
overflow_add-place c = let b = c.block_at.ensures in
    let j = c.standing_at.ensures in
    let r = its_record c.requires b c.number_at-first.ensures j c.number_at-place.ensures in
    omega (arith, r.there)

pub u16_at-requires : goal.u16_at-requires
u16_at-requires c = let b = c.block_at.ensures in
    let j = c.standing_at.ensures in
    let r = its_record c.requires b c.number_at-first.ensures j c.number_at-place.ensures in
    omega (arith, r.there)

pub returns : goal.returns
returns c = λ v.
    let b = c.block_at.ensures in
    let j = c.standing_at.ensures in
    its_kind v b c.number_at-first.ensures j c.number_at-place.ensures c.u16_at.ensures.0
