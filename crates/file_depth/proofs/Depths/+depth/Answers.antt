-- `file_depth::Depths::depth` meets its contract: 256 less the block number falls from call to call. The loop's invariant,
-- `Looped`: the blocks are the same, and the largest depth so far with that of the blocks to come is the largest of all that
-- are named. Assumes nothing.
use mathlib.Core.Path.{refl, sym, ◌∙◌}
use native.Mathlib.Omega.{arith}
use Rattle.file_depth.proofs.Laws.{known_more, measured_known}
use Rattle.file_depth.proofs.Loop.{begun, turned, names_rise, in_range, next_later, depth_ended, depth_noted, small}
use Rattle.file_depth.proofs.Depths.+depth.Goals as goal

pub returns-then-known-ne0-clause-memo : goal.returns-then-known-ne0-clause-memo
returns-then-known-ne0-clause-memo t c = sym (measured_known _ _ _ c.args.b _ c.if-known-ne0.true)

pub loop-k-init : goal.loop-k-init
loop-k-init t c = let s = c.args.self.now in record {
  same = refl;
  turn = begun s.known c.start-begin.ensures c.start-end.ensures (names_rise s.blocks.graph c.requires);
}

pub depth-v-requires : goal.depth-v-requires
depth-v-requires t c = let w = c.loop-k.invariant in
    let g = c.args.self.now.blocks.graph in
    let x = next_later g c.requires w.turn (omega arith) in
    let e = rw w.same at c.short_index-x.ensures.0 in
    (omega (arith, x.0, x.1, e, c.decreases, g.laid.few), rw w.same (omega (arith, x.1, e)))

pub loop-k-preserved : goal.loop-k-preserved
loop-k-preserved t c = let w = c.loop-k.invariant in
    let g = c.args.self.now.blocks.graph in
    let q = c.depth-v.ensures in
    let z = q.blocks ∙ w.same in
    let x = rw w.same at c.short_index-x.ensures.0 in
    rw c.max-d.ensures (record {
      same = z;
      turn = turned w.turn (omega (arith, in_range g c.requires w.turn, w.turn.last, g.laid.room)) (omega arith)
          (rw z at c.depth-v.new.self.known) (rw (w.same, x) at q.memo) (rw (w.same, x) at q.value);
    })

pub overflow_add-self : goal.overflow_add-self
overflow_add-self t c = omega (arith, small c.args.self.now.blocks.graph c.requires c.loop-k.invariant.turn (omega arith))

pub returns-clause-blocks : goal.returns-clause-blocks
returns-clause-blocks t c = c.loop-k.invariant.same

pub returns-clause-memo : goal.returns-clause-memo
returns-clause-memo t c = depth_noted c.args.self.now.blocks.graph c.requires c.loop-k.invariant.turn (omega arith) c.if-known-ne0.false

pub returns-clause-value : goal.returns-clause-value
returns-clause-value t c = depth_ended c.args.self.now.blocks.graph c.requires c.loop-k.invariant.turn (omega arith)

pub invariant_of-self : goal.invariant_of-self
invariant_of-self t c = let w = c.loop-k.invariant in
    let g = c.args.self.now.blocks.graph in
    let k = known_more _ _ _ c.args.b _ (omega (arith, g.laid.few, c.requires)) w.turn.known
    (depth_ended g c.requires w.turn (omega arith)) in
    record { known = rw w.same k }

pub overflow_add-result : goal.overflow_add-result
overflow_add-result t c = omega (arith, small c.args.self.now.blocks.graph c.requires c.loop-k.invariant.turn (omega arith))
