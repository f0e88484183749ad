-- `row_slaves::sift` meets its contract. The loop's invariant: with what is left, those that stayed and went are the whole
-- answer. Assumes nothing.
use borrow.Author.Rules.{rules}
use mathlib.Core.Path.{refl}
use native.Mathlib.Omega.{arith}
use Rattle.row_slaves.proofs.Words.{none_sorted, all_sorted}
use Rattle.row_slaves.proofs.sift.Goals as goal

pub loop-k-init : goal.loop-k-init
loop-k-init c = (none_sorted _ _ _ _ _ c.requires.0 c.requires.1, (refl, refl))

pub sort_one-gone-requires : goal.sort_one-gone-requires
sort_one-gone-requires c = let h = c.loop-k.invariant.0 in
    let t = c.loop-k-test.true in
    (h.few, (omega (arith, h.room, t), omega (arith, h.few, h.space, t)))

pub loop-k-preserved : goal.loop-k-preserved
loop-k-preserved c = let l = c.loop-k in
    let t = c.loop-k-test.true in
    (c.sort_one-gone.ensures _ _ _ t l.invariant.0, (search rules, search rules))

pub overflow_sub-result : goal.overflow_sub-result
overflow_sub-result c = let h = c.loop-k.invariant.0 in omega (arith, h.few, h.inside)

pub returns : goal.returns
returns c = let h = c.loop-k.invariant.0 in all_sorted (omega (arith, h.inside, c.loop-k-test.false)) h
