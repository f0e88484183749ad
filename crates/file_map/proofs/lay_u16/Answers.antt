-- `file_map::lay_u16` meets its contract. The loop's invariant is `Laying`: the front of the array is laid. Assumes nothing.
use native.Mathlib.Omega.{arith}
use Rattle.file_map.proofs.Laying.{lay_starts, lay_room, lay_turn, lay_ends}
use Rattle.file_map.proofs.lay_u16.Goals as goal

pub loop-i-init : goal.loop-i-init
loop-i-init c = lay_starts c.args.xs.now c.args.at c.args.row.now c.requires

pub overflow_add-row : goal.overflow_add-row
overflow_add-row c = let l = c.loop-i in omega (arith, lay_room l.invariant c.loop-i-test.true)

pub bounds-row-at : goal.bounds-row-at
bounds-row-at c = lay_room c.loop-i.invariant c.loop-i-test.true

pub overflow_add-i : goal.overflow_add-i
overflow_add-i c = omega (arith, c.loop-i-test.true)

pub loop-i-smaller : goal.loop-i-smaller
loop-i-smaller c = omega (arith, c.loop-i-test.true)

pub loop-i-preserved : goal.loop-i-preserved
loop-i-preserved c = lay_turn c.loop-i.invariant c.loop-i-test.true c.wide_short.ensures.0

pub returns : goal.returns
returns c = lay_ends c.loop-i.invariant c.loop-i-test.false
