-- `row_claim::first_met` meets its contract. The invariant: the first that is met is the first from branch k on; where none is, what
-- the first of all lacks is at hand. Assumes nothing.
use native.Mathlib.Omega.{arith}
use Rattle.row_claim.proofs.Branches.{at_first, many_are, few_are, none_met, its_claim, is_first, further}
use Rattle.row_claim.proofs.first_met.Goals as goal

pub branches_from-from-requires : goal.branches_from-from-requires
branches_from-from-requires c = let v = c.requires in (v.long, omega (arith, v.few))

pub overflow_add-a : goal.overflow_add-a
overflow_add-a c = omega (arith, c.requires.few)

pub branches_from-requires : goal.branches_from-requires
branches_from-requires c = let v = c.requires in (v.long, omega (arith, v.few))

pub overflow_sub-many : goal.overflow_sub-many
overflow_sub-many c = let v = c.requires in
    omega (arith, many_are _ _ _ _ v _ _ c.branches_from-from.ensures c.branches_from.ensures)

pub loop-k-init : goal.loop-k-init
loop-k-init c = (omega arith, λ v. at_first _ _ _ _ v)

pub overflow_add-from : goal.overflow_add-from
overflow_add-from c = let v = c.requires in
    let p = c.branches_from-from.ensures in
    let q = c.branches_from.ensures in
    omega (arith, few_are _ _ _ _ v _ _ p q)

pub claim_at-at-requires : goal.claim_at-at-requires
claim_at-at-requires c = let v = c.requires in
    let p = c.branches_from-from.ensures in
    let q = c.branches_from.ensures in
    (v.long, omega (arith, few_are _ _ _ _ v _ _ p q))

pub test_claim-tested-requires : goal.test_claim-tested-requires
test_claim-tested-requires c = let v = c.requires in
    let p = c.branches_from-from.ensures in
    let q = c.branches_from.ensures in
    its_claim _ _ _ _ v _ _ p q _ c.loop-k-test.true _ c.claim_at-at.ensures

pub returns-in-Met : goal.returns-in-Met
returns-in-Met c = λ v.
    let p = c.branches_from-from.ensures in
    let q = c.branches_from.ensures in
    is_first _ _ _ _ v _ _ p q _ c.loop-k-test.true _ c.claim_at-at.ensures _
    c.test_claim-tested.ensures _ (c.loop-k.invariant.1 v) c.in-Met.is

pub loop-k-smaller : goal.loop-k-smaller
loop-k-smaller c = omega (arith, c.loop-k-test.true)

pub loop-k-preserved : goal.loop-k-preserved
loop-k-preserved c = let t = c.loop-k-test.true in
    let p = c.branches_from-from.ensures in
    let q = c.branches_from.ensures in (
      omega (arith, t),
      λ v.
          further _ _ _ _ v _ _ p q _ t _ c.claim_at-at.ensures _ c.test_claim-tested.ensures _ (c.loop-k.invariant.1 v) _
          c.in-Lacks.is
          (grind arith),
    )

pub returns : goal.returns
returns c = λ v.
    let l = c.loop-k in
    let p = c.branches_from-from.ensures in
    let q = c.branches_from.ensures in
    none_met _ _ _ _ v _ _ p q _ _ c.loop-k-test.false (l.invariant.1 v)
