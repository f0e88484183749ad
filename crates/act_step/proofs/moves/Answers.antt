-- `act_step::moves` meets its contract: past the block's last action, or at one. Assumes nothing.
use native.Mathlib.Omega.{arith}
use Rattle.act_step.proofs.Standing.{its_work, block_few, sum_low, gone, gone_as, standing, standing_as}
use Rattle.act_step.proofs.moves.Goals as goal

pub block_at-block-requires : goal.block_at-block-requires
block_at-block-requires c = its_work c.requires.floored

pub number_at-requires : goal.number_at-requires
number_at-requires c = let v = c.requires.floored in
    omega (arith, block_few v (c.block_at-block.ensures (its_work v)))

pub standing_at-requires : goal.standing_at-requires
standing_at-requires c = its_work c.requires.floored

pub overflow_add-a : goal.overflow_add-a
overflow_add-a c = let v = c.requires.floored in
    let b = c.block_at-block.ensures (its_work v) in
    omega (arith, sum_low v b c.number_at.ensures (c.standing_at.ensures (its_work v)))

pub overflow_add-block : goal.overflow_add-block
overflow_add-block c = let v = c.requires.floored in
    omega (arith, block_few v (c.block_at-block.ensures (its_work v)), v.running.mapped.long)

pub number_at-requires-2 : goal.number_at-requires-2
number_at-requires-2 c = let v = c.requires.floored in
    block_few v (c.block_at-block.ensures (its_work v))

pub exhausted-requires : goal.exhausted-requires
exhausted-requires c = let b = c.block_at-block.ensures (its_work c.requires.floored) in
    let f = c.number_at.ensures in
    let j = c.standing_at.ensures (its_work c.requires.floored) in record {
      exhausted = gone c.requires.floored b f j c.number_at-2.ensures c.if-number_at-a.true;
      roomy = c.requires.roomy;
    }

pub returns-then-number_at-a : goal.returns-then-number_at-a
returns-then-number_at-a c = λ v.
    let b = c.block_at-block.ensures (its_work v) in
    let f = c.number_at.ensures in
    let j = c.standing_at.ensures (its_work v) in
    let n = c.number_at-2.ensures in
    let l = c.if-number_at-a.true in
    rw (gone_as v b f j n l) (c.exhausted.ensures (gone v b f j n l))

pub meets-requires : goal.meets-requires
meets-requires c = let b = c.block_at-block.ensures (its_work c.requires.floored) in
    let f = c.number_at.ensures in
    let j = c.standing_at.ensures (its_work c.requires.floored) in record {
      stands = standing c.requires.floored b f j c.number_at-2.ensures c.if-number_at-a.false;
      roomy = c.requires.roomy;
    }

pub returns : goal.returns
returns c = λ v.
    let b = c.block_at-block.ensures (its_work v) in
    let f = c.number_at.ensures in
    let j = c.standing_at.ensures (its_work v) in
    let n = c.number_at-2.ensures in
    let l = c.if-number_at-a.false in
    rw (standing_as v b f j n l) (c.meets.ensures (standing v b f j n l))
