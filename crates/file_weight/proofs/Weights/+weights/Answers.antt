-- The methods of `file_weight::Weights` meet their contracts: four times 256 less the block number, and 0 for an action, 1 for a
-- block, 2 for a class and 3 for what an action goes to, falls from call to call. The loops' invariants: `Summed`, that what is
-- summed so far with the actions to come is the block's weight under the cap; `Went`, that the largest so far with the blocks to
-- come is the largest of all that the action goes to. Assumes nothing.
use mathlib.Core.Path.{refl, sym, ◌∙◌}
use native.Mathlib.Nat.{mul-le-mul}
use native.Mathlib.Omega.{arith}
use Rattle.file_depth.proofs.Laws.{known_more, measured_known}
use Rattle.file_depth.proofs.Loop.{begun, turned, all_noted}
use Rattle.file_weight.proofs.Laws.{graph_ahead}
use Rattle.file_weight.proofs.Loop.{sum_begun, sum_turned, sum_ended, sum_noted, goes_rise}
use Rattle.file_weight.proofs.Loop.{goes_stop, action_next, top_small, action_ended}
use Rattle.file_weight.proofs.Weights.+weights.Goals as goal

pub action-loop-k-init : goal.action-loop-k-init
action-loop-k-init t c = let s = c.args.self.now in record {
  same = refl;
  turn = begun s.known c.short_index-begin.ensures.0 c.short_index-end.ensures.0 (goes_rise s.actions.blocks.graph c.requires);
}

pub action-goes-v-requires : goal.action-goes-v-requires
action-goes-v-requires t c = let w = c.loop-k.invariant in
    let s = c.args.self.now.actions in
    let g = s.blocks.graph in
    let x = action_next g c.requires s.own.now s.times.now w.turn (omega arith) in
    let e = rw w.same at c.short_index-x.ensures.0 in
    (omega (arith, x.0, x.1, e, c.decreases, g.laid.few), rw w.same (omega (arith, x.1, e)))

pub action-loop-k-preserved : goal.action-loop-k-preserved
action-loop-k-preserved t c = let w = c.loop-k.invariant in
    let g = c.args.self.now.actions.blocks.graph in
    let q = c.goes-v.ensures in
    let z = q.actions ∙ w.same in
    let x = rw w.same at c.short_index-x.ensures.0 in
    rw c.max-top.ensures (record {
      same = z;
      turn = turned w.turn (omega (arith, goes_stop g c.requires, g.laid.room)) (omega arith)
          (rw z at c.goes-v.new.self.known) (rw (w.same, x) at q.memo) (rw (w.same, x) at q.value);
    })

pub action-overflow_mul-rounds : goal.action-overflow_mul-rounds
action-overflow_mul-rounds t c = let s = c.args.self.now.actions in
    let small = top_small s.blocks.graph c.requires s.own.now s.times.now c.loop-k.invariant.turn (omega arith) in
    omega (arith, mul-le-mul c.long-rounds.ensures.1 small)

pub action-overflow_add-weight : goal.action-overflow_add-weight
action-overflow_add-weight t c = let s = c.args.self.now.actions in
    let small = top_small s.blocks.graph c.requires s.own.now s.times.now c.loop-k.invariant.turn (omega arith) in
    omega (arith, mul-le-mul c.long-rounds.ensures.1 small, c.long-weight.ensures.1)

pub action-returns-clause-actions : goal.action-returns-clause-actions
action-returns-clause-actions t c = c.loop-k.invariant.same

pub action-returns-clause-memo : goal.action-returns-clause-memo
action-returns-clause-memo t c = all_noted c.loop-k.invariant.turn (omega arith)

pub action-returns-clause-value : goal.action-returns-clause-value
action-returns-clause-value t c = let w = c.loop-k.invariant in
    let s = c.args.self.now.actions in
    c.min.ensures
    ∙ rw (c.long-rounds.ensures.0, c.long-weight.ensures.0, w.same)
    (action_ended s.blocks.graph c.requires s.own.now s.times.now w.turn (omega arith))

pub block-returns-then-known-ne0-clause-memo : goal.block-returns-then-known-ne0-clause-memo
block-returns-then-known-ne0-clause-memo t c = sym (measured_known _ _ _ c.args.b _ c.if-known-ne0.true)

pub block-loop-a-init : goal.block-loop-a-init
block-loop-a-init t c = let s = c.args.self.now in record {
  same = refl;
  sum = sum_begun s.known c.short_index-begin.ensures.0 c.short_index-end.ensures.0
      (s.actions.blocks.graph.laid.rises c.args.b c.requires);
}

pub block-action-v-requires : goal.block-action-v-requires
block-action-v-requires t c = let w = c.loop-a.invariant in (
  omega (arith, c.decreases),
  rw w.same (record { block = c.requires; low = w.sum.low; high = omega (arith, w.sum.last) }),
)

pub block-overflow_add-w : goal.block-overflow_add-w
block-overflow_add-w t c = omega (arith, c.loop-a.invariant.sum.small, c.action-v.ensures.value)

pub block-loop-a-preserved : goal.block-loop-a-preserved
block-loop-a-preserved t c = let w = c.loop-a.invariant in
    let q = c.action-v.ensures in
    let z = q.actions ∙ w.same in
    rw c.min-w.ensures (record {
      same = z;
      sum = sum_turned w.sum (omega arith) (rw z at c.action-v.new.self.known) (rw w.same at q.memo) (rw w.same at q.value);
    })

pub block-overflow_add-self : goal.block-overflow_add-self
block-overflow_add-self t c = omega (arith, c.loop-a.invariant.sum.small)

pub block-invariant_of-self : goal.block-invariant_of-self
block-invariant_of-self t c = let w = c.loop-a.invariant in
    let s = c.args.self.now.actions in
    let g = s.blocks.graph in
    let k = known_more _ _ _ c.args.b _ (omega (arith, g.laid.few, c.requires)) w.sum.known
    (sum_ended w.sum (graph_ahead _ _ _ _ g s.own.now s.times.now) c.requires (omega arith)) in
    record { known = rw w.same k }

pub block-returns-clause-actions : goal.block-returns-clause-actions
block-returns-clause-actions t c = c.loop-a.invariant.same

pub block-returns-clause-memo : goal.block-returns-clause-memo
block-returns-clause-memo t c = let s = c.args.self.now.actions in
    sum_noted c.loop-a.invariant.sum (graph_ahead _ _ _ _ s.blocks.graph s.own.now s.times.now) c.requires (omega arith)
    c.if-known-ne0.false

pub block-returns-clause-value : goal.block-returns-clause-value
block-returns-clause-value t c = let s = c.args.self.now.actions in
    omega (arith, sum_ended c.loop-a.invariant.sum (graph_ahead _ _ _ _ s.blocks.graph s.own.now s.times.now) c.requires (omega arith))

pub class-block-w-requires : goal.class-block-w-requires
class-block-w-requires t c = (omega (arith, c.decreases), c.requires)

pub goes-class-requires : goal.goes-class-requires
goes-class-requires t c = (omega (arith, c.decreases), c.requires)

pub goes-block-requires : goal.goes-block-requires
goes-block-requires t c = (omega (arith, c.decreases), c.requires)
