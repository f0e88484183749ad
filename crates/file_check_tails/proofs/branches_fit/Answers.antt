-- `file_check_tails::branches_fit` meets its contract. Assumes nothing.
use Rattle.std.proofs.Common.{sym, ◌∙◌, inl, inr}
use native.Mathlib.Omega.{arith}
use Rattle.file_check_parts.proofs.Laws.{rest_of}
use Rattle.file_check_tails.proofs.Branches.{lacks_head, lacks_claim, fit_on, fit_end}
use Rattle.file_check_tails.proofs.branches_fit.Goals as goal

pub returns-then-rest-lt-HEAD : goal.returns-then-rest-lt-HEAD
returns-then-rest-lt-HEAD c =
    sym (lacks_head c.args.count c.loop.counter c.loop.rest.now c.loop-test.true c.if-rest-lt-HEAD.true) ∙ c.loop.invariant

pub returns-in_default : goal.returns-in_default
returns-in_default c =
    sym (lacks_claim c.args.count c.loop.counter c.loop.rest.now c.loop-test.true _ c.branch_size.ensures.0
    c.if-rest-lt-HEAD.false (elim c.in_default.ensures.lookup.0 [ inl l ↦ l | inr l ↦ omega (arith, l) ])) ∙ c.loop.invariant

pub loop-preserved : goal.loop-preserved
loop-preserved c =
    let x = c.in-Some.ensures.lookup.0 in
    let r = c.loop.rest.now in
    rw (x.2, rest_of c.branch_size.result r) (sym (fit_on c.args.count c.loop.counter r c.loop-test.true _
    c.branch_size.ensures.0 c.if-rest-lt-HEAD.false x.0) ∙ c.loop.invariant)

pub returns : goal.returns
returns c =
    c.is_empty.ensures ∙ sym (fit_end c.args.count c.loop.counter c.loop.rest.now c.loop-test.false) ∙ c.loop.invariant
