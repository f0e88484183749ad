-- `act_puts_start::move_shares` meets its contract. The loop's invariant: the shares left, moved in the state that the work
-- shows now, lead to the same state. Assumes nothing.
use native.Mathlib.Omega.{arith}
use mathlib.Core.Path.{sym}
use lib.ListN.{length-drop}
use lib.Seq.{length-take-le}
use Rattle.file_check_parts.proofs.Laws.{rest_of, fits_turn}
use Rattle.act_puts_start.proofs.Sharing.{all_left, next_moving, less_left, none_left}
use Rattle.act_puts_start.proofs.move_shares.Goals as goal

pub u16_at-left-requires : goal.u16_at-left-requires
u16_at-left-requires c = omega (arith, c.requires.told.inside)

pub slice_bounds-rest-count : goal.slice_bounds-rest-count
slice_bounds-rest-count c = omega (arith, c.requires.told.inside)

pub slice_bounds-rest-start : goal.slice_bounds-rest-start
slice_bounds-rest-start c = omega (arith, c.requires.told.inside)

pub loop-left-init : goal.loop-left-init
loop-left-init c = let e = c.u16_at-left.ensures.0 in (
  rw (rest_of 8 c.args.body.now, length-drop 8 c.args.body.now) (omega (arith, e, c.requires.told.inside)),
  λ v. all_left v e,
)

pub slice_bounds-move_share-end : goal.slice_bounds-move_share-end
slice_bounds-move_share-end c = let l = c.loop-left in
    sym (length-take-le 6 l.rest.now (omega (arith, c.loop-left-test.true, l.invariant.0)))

pub move_share-requires : goal.move_share-requires
move_share-requires c = let l = c.loop-left in
    let t = c.loop-left-test.true in
    let v = c.requires in
    (next_moving v _ _ t (l.invariant.1 v), rw (length-take-le 6 l.rest.now (omega (arith, t, l.invariant.0))) (omega arith))

pub slice_bounds-rest-count-in-loop-left : goal.slice_bounds-rest-count-in-loop-left
slice_bounds-rest-count-in-loop-left c = omega (arith, c.loop-left-test.true, c.loop-left.invariant.0)

pub slice_bounds-rest-start-in-loop-left : goal.slice_bounds-rest-start-in-loop-left
slice_bounds-rest-start-in-loop-left c = omega (arith, c.loop-left-test.true, c.loop-left.invariant.0)

pub overflow_sub-left : goal.overflow_sub-left
overflow_sub-left c = omega (arith, c.loop-left-test.true)

pub loop-left-smaller : goal.loop-left-smaller
loop-left-smaller c = omega (arith, c.loop-left-test.true)

pub loop-left-preserved : goal.loop-left-preserved
loop-left-preserved c = let l = c.loop-left in
    let t = c.loop-left-test.true in (
      fits_turn 6 l.left l.rest.now t l.invariant.0,
      λ v. less_left v _ _ t (l.invariant.1 v) c.move_share.ensures,
    )

pub returns : goal.returns
returns c = λ v. none_left v _ _ (omega (arith, c.loop-left-test.false)) (c.loop-left.invariant.1 v)
