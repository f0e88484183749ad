-- `file_check_tails::all_branches` meets its contract. Assumes nothing.
use Rattle.std.proofs.Common.{sym, ◌∙◌, refl, true, false}
use Rattle.file_check_tails.proofs.Branches.{fit_four, fit_size, fit_turn, all_on, all_fail, all_end}
use Rattle.file_check_tails.proofs.all_branches.Goals as goal

pub branch_size-requires : goal.branch_size-requires
branch_size-requires g c =
    fit_four _ _ c.loop.rest.now (rw c.u16_at-end.ensures.0 at c.loop-test.true) _ refl c.loop.invariant.0

pub split_at-requires : goal.split_at-requires
split_at-requires g c =
    fit_size _ _ c.loop.rest.now (rw c.u16_at-end.ensures.0 at c.loop-test.true) _ c.branch_size.ensures.0 c.loop.invariant.0

pub returns-then-not-passes : goal.returns-then-not-passes
returns-then-not-passes g c = λ d.
    let r = c.loop.rest.now in
    sym (all_fail _ _ r (rw c.u16_at-end.ensures.0 at c.loop-test.true) _ c.branch_size.ensures.0 d.is
    (rw (← c.split_at.ensures.front) (sym (d.so c.split_at.result.0 false c.if-not-passes.ensures)))) ∙ c.loop.invariant.1 d

pub loop-preserved : goal.loop-preserved
loop-preserved g c =
    let r = c.loop.rest.now in
    let t = rw c.u16_at-end.ensures.0 at c.loop-test.true in
    let z = c.branch_size.ensures.0 in
    let s = c.split_at.ensures in (
      rw s.back (fit_turn _ _ r t _ z c.loop.invariant.0),
      λ d. rw s.back (sym (all_on _ _ r t _ z d.is (rw (← s.front) (sym (d.so c.split_at.result.0 true c.if-not-passes.ensures))))
          ∙ c.loop.invariant.1 d),
    )

pub returns : goal.returns
returns g c = λ d.
    sym (all_end _ _ c.loop.rest.now (rw c.u16_at-end.ensures.0 at c.loop-test.false) d.is) ∙ c.loop.invariant.1 d
