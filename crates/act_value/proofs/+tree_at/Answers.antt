-- `act_value::tree_at` meets its contract: the nodes from the k-th on get fewer from call to call, and what is read at a node
-- follows from what is read of its operands (Turns).
-- Assumes nothing.
use mathlib.Core.Path.{sym, ◌∙◌}
use native.Mathlib.Omega.{arith}
use Rattle.act_value.proofs.Prefix.{draws_none, takes_two, two_from_3}
use Rattle.act_value.proofs.Turns.{leaf_indexed, leaf_read, can_draw, draw_read, first_inside, one_read, second_inside}
use Rattle.act_value.proofs.Turns.{two_read, then_ready}
use Rattle.act_value.proofs.+tree_at.Goals as goal

pub node_at-node-requires : goal.node_at-node-requires
node_at-node-requires t c = c.requires.1

pub draw-code-requires : goal.draw-code-requires
draw-code-requires t c = let w = c.requires.0 in
    let d = c.node_at-node in
    let n = c.if-node-eq-DRAW.true in
    can_draw w.to_read c.args.k c.requires.1 d.result d.ensures (draws_none _ n) w.ds _ w.shows_seeds n
    w.seeds_ok

pub overflow_add-result : goal.overflow_add-result
overflow_add-result t c = omega (arith, c.requires.1)

pub returns-then-node-eq-DRAW : goal.returns-then-node-eq-DRAW
returns-then-node-eq-DRAW t c = let d = c.node_at-node in
    let n = c.if-node-eq-DRAW.true in
    λ w. draw_read w.to_read c.args.k c.requires.1 d.result d.ensures (draws_none _ n) w.ds _
    w.shows_seeds n w.seeds_ok c.draw-code.result _ c.draw-code.ensures.0 c.draw-code.ensures.1

pub leaf-code-requires : goal.leaf-code-requires
leaf-code-requires t c = let w = c.requires.0 in
    let d = c.node_at-node in
    let e = sym c.operands-many.ensures.0 ∙ c.if-many-eq0.true in
    (w.to_read.clock_ok, leaf_indexed w.to_read c.args.k c.requires.1 d.result d.ensures e)

pub overflow_add-result-then-many-eq0 : goal.overflow_add-result-then-many-eq0
overflow_add-result-then-many-eq0 t c = omega (arith, c.requires.1)

pub returns-then-many-eq0 : goal.returns-then-many-eq0
returns-then-many-eq0 t c = let d = c.node_at-node in
    let e = sym c.operands-many.ensures.0 ∙ c.if-many-eq0.true in
    λ w. leaf_read w.to_read c.args.k c.requires.1 d.result d.ensures e w.ds _ w.shows_seeds
    c.if-node-eq-DRAW.false c.leaf-code.result c.leaf-code.ensures

pub overflow_add-k : goal.overflow_add-k
overflow_add-k t c = omega (arith, c.requires.1)

pub tree_at-first-requires : goal.tree_at-first-requires
tree_at-first-requires t c = let p = c.requires in
    let d = c.node_at-node in
    let n = c.operands-many.ensures.0 in
    let i = first_inside p.0.to_read c.args.k p.1 d.result d.ensures (λ e. c.if-many-eq0.false (n ∙ e)) in
    (omega (arith, i, c.decreases), (p.0, i))

pub returns-then-many-eq1 : goal.returns-then-many-eq1
returns-then-many-eq1 t c = let d = c.node_at-node in
    let r = c.tree_at-first in
    let e = sym c.operands-many.ensures.0 ∙ c.if-many-eq1.true in
    λ w. one_read w.to_read c.args.k c.requires.1 d.result d.ensures w.ds _ r.result (r.ensures w) e
    c.negated-value.result c.negated-value.ensures

pub tree_at-second-requires : goal.tree_at-second-requires
tree_at-second-requires t c = let w = c.requires.0 in
    let d = c.node_at-node in
    let r = c.tree_at-first in
    let n = c.operands-many.ensures.0 in
    let e = takes_two d.result.op _ n c.if-many-eq0.false c.if-many-eq1.false in
    let i = r.ensures w in
    let h = second_inside w.to_read c.args.k c.requires.1 d.result d.ensures w.ds _ r.result i e in
    (omega (arith, h, c.decreases, i.onward), (then_ready w c.args.k r.result i, h))

pub of_two-value-requires : goal.of_two-value-requires
of_two-value-requires t c = let d = c.node_at-node in
    let n = c.operands-many.ensures.0 in
    two_from_3 d.result.op (takes_two d.result.op _ n c.if-many-eq0.false c.if-many-eq1.false)

pub returns : goal.returns
returns t c = let d = c.node_at-node in
    let r = c.tree_at-first in
    let r' = c.tree_at-second in
    let n = c.operands-many.ensures.0 in
    let e = takes_two d.result.op _ n c.if-many-eq0.false c.if-many-eq1.false in
    λ w. two_read w.to_read c.args.k c.requires.1 d.result d.ensures w.ds _ r.result (r.ensures w) e
    r'.result _ (r'.ensures (then_ready w c.args.k r.result (r.ensures w))) c.of_two-value.result c.of_two-value.ensures
