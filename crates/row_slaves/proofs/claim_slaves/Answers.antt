-- `row_slaves::claim_slaves` meets its contract. The loop's invariant: k are claimed in the state that is shown. Assumes
-- nothing.
use native.Mathlib.Omega.{arith}
use Rattle.row_slaves.proofs.Claiming.{none_claimed, all_claimed, next_claim, one_claimed}
use Rattle.row_slaves.proofs.claim_slaves.Goals as goal

pub loop-k-init : goal.loop-k-init
loop-k-init c = (omega arith, λ d. none_claimed d)

pub claim_one-requires : goal.claim_one-requires
claim_one-requires c = let d = c.requires in
    let l = c.loop-k in
    next_claim d l.k c.loop-k-test.true (l.invariant.1 d)

pub loop-k-preserved : goal.loop-k-preserved
loop-k-preserved c = let l = c.loop-k in
    let t = c.loop-k-test.true in
    (omega (arith, t), λ d. one_claimed d l.k t (l.invariant.1 d) c.claim_one.ensures)

pub returns : goal.returns
returns c = λ d. let l = c.loop-k in
    all_claimed d l.k (omega (arith, l.invariant.0, c.loop-k-test.false)) (l.invariant.1 d)
