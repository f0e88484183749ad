-- `file_bound::total` meets its contract. The loop's invariant, `Going`: what is summed so far with what the ENTITY records to
-- come weigh is the bound, under the cap. Assumes nothing.
use mathlib.Core.Path.{sym, ◌∙◌}
use native.Mathlib.Omega.{arith}
use Rattle.file_bound.proofs.Arrays.{readable, arrays}
use Rattle.file_bound.proofs.Loop.{nothing_weighs, going_begun, going_ended, step, going_bodied, going_small, going_on}
use Rattle.file_bound.proofs.total.Goals as goal

pub returns-then-is_empty : goal.returns-then-is_empty
returns-then-is_empty c = nothing_weighs _ (sym c.is_empty.ensures ∙ c.if-is_empty.true)

pub index_of-i-requires : goal.index_of-i-requires
index_of-i-requires c = readable _ c.requires

pub graph_of-g-requires : goal.graph_of-g-requires
graph_of-g-requires c = readable _ c.requires

pub graph_of-p-requires : goal.graph_of-p-requires
graph_of-p-requires c = readable _ c.requires

pub invariant_of-blocks : goal.invariant_of-blocks
invariant_of-blocks c = record { graph = (arrays c.args.s.now c.requires c.index_of-i.ensures c.graph_of-g.ensures).graph }

pub loop-at-init : goal.loop-at-init
loop-at-init c = rw (c.new-weights.ensures.actions, c.first-at.ensures) (going_begun c.args.s.now c.requires (arrays c.args.s.now
    c.requires
    c.index_of-i.ensures
    c.graph_of-g.ensures))

pub overflow_add-at : goal.overflow_add-at
overflow_add-at c = let p = step c.loop-at.invariant c.loop-at-test.true c.read-x.ensures
    c.next-end.ensures in omega (arith, p.far, p.within)

pub slice_bounds-entity_weight-count : goal.slice_bounds-entity_weight-count
slice_bounds-entity_weight-count c = let p = step c.loop-at.invariant c.loop-at-test.true c.read-x.ensures
    c.next-end.ensures in omega (arith, p.far, p.within)

pub slice_bounds-entity_weight-start : goal.slice_bounds-entity_weight-start
slice_bounds-entity_weight-start c = let p = step c.loop-at.invariant c.loop-at-test.true c.read-x.ensures
    c.next-end.ensures in omega (arith, p.far, p.within)

pub slice_bounds-entity_weight-end : goal.slice_bounds-entity_weight-end
slice_bounds-entity_weight-end c = let p = step c.loop-at.invariant c.loop-at-test.true c.read-x.ensures
    c.next-end.ensures in omega (arith, p.far, p.within)

pub entity_weight-v-requires : goal.entity_weight-v-requires
entity_weight-v-requires c = going_bodied c.loop-at.invariant c.loop-at-test.true c.read-x.ensures c.next-end.ensures

pub overflow_add-w : goal.overflow_add-w
overflow_add-w c = let t = c.loop-at.invariant in
    omega (arith, t.small, going_small t c.loop-at-test.true c.read-x.ensures c.next-end.ensures c.entity_weight-v.ensures.value)

pub loop-at-smaller : goal.loop-at-smaller
loop-at-smaller c = let p = step c.loop-at.invariant c.loop-at-test.true c.read-x.ensures
    c.next-end.ensures in omega (arith, p.far, p.within)

pub loop-at-preserved : goal.loop-at-preserved
loop-at-preserved c = rw (c.min-w.ensures, c.entity_weight-v.ensures.actions)
    (going_on c.loop-at.invariant c.loop-at-test.true
    c.read-x.ensures c.next-end.ensures c.entity_weight-v.ensures.value)

pub returns : goal.returns
returns c = going_ended c.loop-at.invariant (omega (arith, c.loop-at-test.false))
