-- `act_puts_start::free_all` meets its contract. The loop's invariant: those left, freed in the state that the work shows now,
-- lead to the same state and the same bytes. Assumes nothing.
use native.Mathlib.Omega.{arith}
use Rattle.act_puts_start.proofs.Freeing.{all_left, next_freed, less_left, none_left}
use Rattle.act_puts_start.proofs.free_all.Goals as goal

pub loop-k-init : goal.loop-k-init
loop-k-init c = (omega arith, λ v. all_left v _ _)

pub offset_bounds-places-k : goal.offset_bounds-places-k
offset_bounds-places-k c = omega (arith, c.loop-k-test.true, c.requires.freeing.inside)

pub bounds-places-k : goal.bounds-places-k
bounds-places-k c = omega (arith, c.loop-k-test.true, c.requires.freeing.inside)

pub overflow_add-at : goal.overflow_add-at
overflow_add-at c = omega (arith, c.loop-k-test.true, c.requires.n_in_bounds)

pub free_one-requires : goal.free_one-requires
free_one-requires c = let v = c.requires.freeing in let t = c.loop-k-test.true in let l = c.loop-k.invariant.1 v in (
  next_freed
      v _ _ t l,
  (omega (arith, t, l.same_long, c.requires.n_in_bounds), v.sync_low),
)

pub overflow_add-k : goal.overflow_add-k
overflow_add-k c = omega (arith, c.loop-k-test.true)

pub loop-k-smaller : goal.loop-k-smaller
loop-k-smaller c = omega (arith, c.loop-k-test.true)

pub loop-k-preserved : goal.loop-k-preserved
loop-k-preserved c = let t = c.loop-k-test.true in (
  omega (arith, t),
  λ v.
      less_left v _ _ t (c.loop-k.invariant.1 v) c.free_one.ensures.done c.free_one.ensures.out_after,
)

pub returns : goal.returns
returns c = λ v. none_left v _ _ c.loop-k-test.false (c.loop-k.invariant.1 v)
