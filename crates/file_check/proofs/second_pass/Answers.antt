-- `file_check::second_pass` meets its contract. The loop's invariant: from `at` on the records have passed 1 to 7, and the pass
-- over them, behind `own` BLOCKs, is the whole pass. Assumes nothing.
use mathlib.Core.Path.{refl, sym, ◌∙◌, ap}
use native.Mathlib.Omega.{arith}
use Rattle.std.proofs.Common.{rules}
use Rattle.std.proofs.lemmas.Result.{err_from_is_err_and}
use Rattle.file_index.proofs.Records.{fine_first, step_there, judged_there, fine_there}
use Rattle.file_check.proofs.Pass.{passes, fails_at, sized_on, second_refused, second_goes, second_ends}
use Rattle.file_check.proofs.second_pass.Goals as goal

pub loop-at-init : goal.loop-at-init
loop-at-init c = let q = c.requires in
    rw c.first-at.ensures (fine_first _ q, (omega arith, (q.short, refl)))

pub overflow_add-at : goal.overflow_add-at
overflow_add-at c = let p = step_there _ _ c.loop-at-test.true c.loop-at.invariant.0
    c.read-x.ensures
    c.next-end.ensures in omega (arith, p.far, p.within)

pub slice_bounds-name-count : goal.slice_bounds-name-count
slice_bounds-name-count c = let p = step_there _ _ c.loop-at-test.true c.loop-at.invariant.0
    c.read-x.ensures
    c.next-end.ensures in omega (arith, p.far, p.within)

pub slice_bounds-name-start : goal.slice_bounds-name-start
slice_bounds-name-start c = let p = step_there _ _ c.loop-at-test.true c.loop-at.invariant.0
    c.read-x.ensures
    c.next-end.ensures in omega (arith, p.far, p.within)

pub slice_bounds-name-end : goal.slice_bounds-name-end
slice_bounds-name-end c = let p = step_there _ _ c.loop-at-test.true c.loop-at.invariant.0
    c.read-x.ensures
    c.next-end.ensures in omega (arith, p.far, p.within)

pub name-requires : goal.name-requires
name-requires c = sized_on (judged_there _ _ c.loop-at-test.true
    c.loop-at.invariant.0
    c.read-x.ensures c.next-end.ensures)

pub returns-in_err-map_err : goal.returns-in_err-map_err
returns-in_err-map_err c = let l = c.loop-at in
    let p = step_there _ _ c.loop-at-test.true l.invariant.0 c.read-x.ensures c.next-end.ensures in
    let q = err_from_is_err_and c.from_residual.result c.from_residual.ensures.1 in
    let f = fails_at c.name.result c.name.ensures l.at c.in_err-map_err.field-0.0 (λ x h. search rules) c.in_err-map_err.ensures.cases in
    rw (q.1, q.2, f.1) (sym (second_refused p _ l.own _ f.0) ∙ l.invariant.1.1.1)

pub opened-own-requires : goal.opened-own-requires
opened-own-requires c = let l = c.loop-at in omega
    (arith, l.invariant.1.0, l.invariant.1.1.0, c.loop-at-test.true)

pub loop-at-smaller : goal.loop-at-smaller
loop-at-smaller c = let p = step_there _ _ c.loop-at-test.true
    c.loop-at.invariant.0
    c.read-x.ensures
    c.next-end.ensures in omega (arith, p.far, p.within)

pub loop-at-preserved : goal.loop-at-preserved
loop-at-preserved c = let l = c.loop-at in
    let h = c.loop-at-test.true in
    let e = c.read-x.ensures in
    let i = c.next-end.ensures in
    let p = step_there _ _ h l.invariant.0 e i in
    let o = c.opened-own.ensures in
    let goes_on = second_goes p _ l.own (passes c.name.result c.name.ensures c.in_ok-map_err.ensures.variant) in (
      fine_there _ _ h l.invariant.0 e i,
      (omega (arith, p.far, o.1, l.invariant.1.0), (l.invariant.1.1.0, rw o.0 (sym goes_on ∙ l.invariant.1.1.1))),
    )

pub returns : goal.returns
returns c = let l = c.loop-at in
    sym (second_ends _ l.at _ l.own (omega (arith, c.loop-at-test.false))) ∙ l.invariant.1.1.1
