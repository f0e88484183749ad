-- `file_index::branches_named` meets its contract. The loop's invariant: the rest fits, and its blocks are still to be written.
-- Assumes nothing.
use Prim.Native.Nat.{ℕ, ◌+◌, ◌-◌, ◌*◌}
use mathlib.Core.Path.{◌≡◌, ap}
use native.Mathlib.Omega.{arith}
use Rattle.semantics.specs.Bytes.{u16}
use Rattle.file_index.proofs.Tries.{left_all, left_some, left_none, left_less, blocks_none, fit_four, fit_size, fit_turn, blocks_turn, turned}
use Rattle.file_index.proofs.Filled.{fills_none, next_room, next_filled, fills_end}
use Rattle.file_index.specs.Index.{branch_blocks}
use Rattle.file_check_parts.proofs.Laws.{rest_of}
use Rattle.file_index.proofs.branches_named.Goals as goal

pub u16_at-end-requires : goal.u16_at-end-requires
u16_at-end-requires c = c.requires.counted

pub slice_bounds-rest-count : goal.slice_bounds-rest-count
slice_bounds-rest-count c = c.requires.counted

pub slice_bounds-rest-start : goal.slice_bounds-rest-start
slice_bounds-rest-start c = c.requires.counted

pub loop-init : goal.loop-init
unfolding branch_blocks
loop-init c = (
  rw (left_all (u16 c.args.bs.now 0), rest_of 2 c.args.bs.now) c.requires.fits,
  fills_none c.args.out.now c.args.n _ _ c.requires.room (rw (left_all (u16 c.args.bs.now 0), rest_of 2 c.args.bs.now)),
)

pub u16_at-requires : goal.u16_at-requires
u16_at-requires c = let l = c.loop in fit_four (u16 c.args.bs.now 0 - l.counter) l.rest.now (left_some c.u16_at-end.ensures.0 c.loop-test.true) l.invariant.0

pub overflow_cast-size : goal.overflow_cast-size
overflow_cast-size c = omega (arith, c.u16_at.ensures.1)

pub overflow_mul-size : goal.overflow_mul-size
overflow_mul-size c = omega (arith, c.u16_at.ensures.1)

pub overflow_add-size : goal.overflow_add-size
overflow_add-size c = omega (arith, c.u16_at.ensures.1)

pub pair_at-requires : goal.pair_at-requires
pair_at-requires c = let l = c.loop in
    omega (arith, fit_four (u16 c.args.bs.now 0 - l.counter) l.rest.now (left_some c.u16_at-end.ensures.0 c.loop-test.true) l.invariant.0)

pub noted-at-requires : goal.noted-at-requires
noted-at-requires c = let l = c.loop in
    let p = c.pair_at in
    let e = ap (λ (x : ℕ). 4 + 8 * x) c.u16_at.ensures.0 in
    let b = blocks_turn (u16 c.args.bs.now 0 - l.counter) l.rest.now (left_some c.u16_at-end.ensures.0 c.loop-test.true) l.invariant.0 e p.ensures in
    next_room (turned b l.invariant.1)

pub slice_bounds-rest-count-in-loop : goal.slice_bounds-rest-count-in-loop
slice_bounds-rest-count-in-loop c = let l = c.loop in
    omega (
      arith,
      c.u16_at.ensures.0,
      fit_size (u16 c.args.bs.now 0 - l.counter) l.rest.now (left_some c.u16_at-end.ensures.0 c.loop-test.true) l.invariant.0,
    )

pub slice_bounds-rest-start-in-loop : goal.slice_bounds-rest-start-in-loop
slice_bounds-rest-start-in-loop c = let l = c.loop in
    omega (
      arith,
      c.u16_at.ensures.0,
      fit_size (u16 c.args.bs.now 0 - l.counter) l.rest.now (left_some c.u16_at-end.ensures.0 c.loop-test.true) l.invariant.0,
    )

pub loop-preserved : goal.loop-preserved
loop-preserved c = let l = c.loop in
    let t = (left_some c.u16_at-end.ensures.0 c.loop-test.true) in
    let p = c.pair_at in
    let w = c.noted-at in
    let e = ap (λ (x : ℕ). 4 + 8 * x) c.u16_at.ensures.0 in
    let b = blocks_turn (u16 c.args.bs.now 0 - l.counter) l.rest.now t l.invariant.0 e p.ensures in rw (← (left_less (u16 c.args.bs.now 0) l.counter)) (
      fit_turn (u16 c.args.bs.now 0 - l.counter) l.rest.now t l.invariant.0 e,
      rw (w.ensures.next_is, w.ensures.after_is) (next_filled (turned b l.invariant.1)),
    )

pub returns : goal.returns
returns c = let l = c.loop in
    let z : (u16 c.args.bs.now 0 - l.counter) ≡ 0 = left_none c.u16_at-end.ensures.0 c.loop-test.false in
    fills_end (blocks_none (u16 c.args.bs.now 0 - l.counter) l.rest.now z) l.invariant.1
