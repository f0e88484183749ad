-- `file_check::third_pass` meets its contract. The loop's invariant, `Turn`: the memo is right, and the pass from `at` on is the
-- whole pass. Assumes nothing.
use mathlib.Core.Path.{sym, ap}
use native.Mathlib.Omega.{arith}
use Rattle.file_check.proofs.Deep.{readable, wired, begun, step, class_is, third_refused, turned, third_ends}
use Rattle.file_check.proofs.third_pass.Goals as goal

pub index_of-i-requires : goal.index_of-i-requires
index_of-i-requires c = readable _ c.requires

pub graph_of-g-requires : goal.graph_of-g-requires
graph_of-g-requires c = readable _ c.requires

pub invariant_of-blocks : goal.invariant_of-blocks
invariant_of-blocks c = record { graph = wired _ c.requires c.index_of-i.ensures c.graph_of-g.ensures }

pub loop-at-init : goal.loop-at-init
loop-at-init c = rw (c.new-depths.ensures.blocks, c.first-at.ensures)
    (begun _ c.requires _
    c.index_of-i.ensures _
    c.graph_of-g.ensures)

pub overflow_add-at : goal.overflow_add-at
overflow_add-at c = let p = step _ c.loop-at.invariant c.loop-at-test.true
    c.read-x.ensures
    c.next-end.ensures in omega (arith, p.far, p.within)

pub slice_bounds-too_deep-count : goal.slice_bounds-too_deep-count
slice_bounds-too_deep-count c = let p = step _ c.loop-at.invariant c.loop-at-test.true
    c.read-x.ensures
    c.next-end.ensures in omega (arith, p.far, p.within)

pub slice_bounds-too_deep-start : goal.slice_bounds-too_deep-start
slice_bounds-too_deep-start c = let p = step _ c.loop-at.invariant c.loop-at-test.true
    c.read-x.ensures
    c.next-end.ensures in omega (arith, p.far, p.within)

pub slice_bounds-too_deep-end : goal.slice_bounds-too_deep-end
slice_bounds-too_deep-end c = let p = step _ c.loop-at.invariant c.loop-at-test.true
    c.read-x.ensures
    c.next-end.ensures in omega (arith, p.far, p.within)

pub too_deep-requires : goal.too_deep-requires
too_deep-requires c = class_is _ c.loop-at.invariant c.loop-at-test.true c.read-x.ensures c.next-end.ensures

pub returns-then-too_deep : goal.returns-then-too_deep
returns-then-too_deep c = sym (third_refused _
    c.loop-at.invariant
    c.loop-at-test.true
    c.read-x.ensures
    c.next-end.ensures c.too_deep.ensures.value
    c.if-too_deep.true)

pub loop-at-smaller : goal.loop-at-smaller
loop-at-smaller c = let p = step _ c.loop-at.invariant
    c.loop-at-test.true
    c.read-x.ensures
    c.next-end.ensures in omega (arith, p.far, p.within)

pub loop-at-preserved : goal.loop-at-preserved
loop-at-preserved c = rw c.too_deep.ensures.blocks
    (turned _ c.loop-at.invariant
    c.loop-at-test.true
    c.read-x.ensures
    c.next-end.ensures c.too_deep.ensures.value c.if-too_deep.false)

pub returns : goal.returns
returns c = sym (third_ends _ c.loop-at.invariant (omega (arith, c.loop-at-test.false)))
