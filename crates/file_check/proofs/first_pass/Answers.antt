-- `file_check::first_pass` meets its contract. The loop's invariant: the pass from `at` on, with what was seen, is the whole
-- pass. Assumes nothing.
use Prim.Native.Nat.{◌<◌}
use borrow.Author.Tests.{not-true, not-false}
use lib.ListN.{get_or, length-set}
use mathlib.Core.Path.{refl, sym, ◌∙◌, ap}
use native.Mathlib.Omega.{arith}
use Rattle.std.proofs.Common.{rules}
use Rattle.std.proofs.lemmas.Result.{err_from_is_err_and}
use Rattle.file_reader.specs.Walk.{reads_step}
use Rattle.file_check.proofs.Pass.{passes, fails_at, first_torn, first_refused, first_goes, first_ends, passes_few}
use Rattle.file_check_record.proofs.Table.{most_small}
use Rattle.semantics.specs.Record.{row_of}
use Rattle.file_check.proofs.first_pass.Goals as goal

pub loop-at-init : goal.loop-at-init
loop-at-init c = (refl, rw c.first-at.ensures refl)

pub returns-then-not-x : goal.returns-then-not-x
returns-then-not-x c = let l = c.loop-at in
    sym (first_torn _ l.at l.seen c.loop-at-test.true
    c.read-x.ensures
    (not-true _ c.if-not-x.true)) ∙ l.invariant.1

pub overflow_add-at : goal.overflow_add-at
overflow_add-at c = let p = reads_step _ _ c.loop-at-test.true
    c.read-x.ensures
    (not-false _ c.if-not-x.false) c.next-end.ensures in omega (arith, p.far, p.within)

pub slice_bounds-judge-count : goal.slice_bounds-judge-count
slice_bounds-judge-count c = let p = reads_step _ _ c.loop-at-test.true
    c.read-x.ensures
    (not-false _ c.if-not-x.false) c.next-end.ensures in omega (arith, p.far, p.within)

pub slice_bounds-judge-start : goal.slice_bounds-judge-start
slice_bounds-judge-start c = let p = reads_step _ _ c.loop-at-test.true
    c.read-x.ensures
    (not-false _ c.if-not-x.false) c.next-end.ensures in omega (arith, p.far, p.within)

pub slice_bounds-judge-end : goal.slice_bounds-judge-end
slice_bounds-judge-end c = let p = reads_step _ _ c.loop-at-test.true
    c.read-x.ensures
    (not-false _ c.if-not-x.false) c.next-end.ensures in omega (arith, p.far, p.within)

pub returns-in_err-map_err : goal.returns-in_err-map_err
returns-in_err-map_err c = let l = c.loop-at in
    let p = reads_step _ _ c.loop-at-test.true c.read-x.ensures (not-false _ c.if-not-x.false) c.next-end.ensures in
    let q = err_from_is_err_and c.from_residual.result c.from_residual.ensures.1 in
    let f = fails_at c.judge.result c.judge.ensures l.at c.in_err-map_err.field-0.0 (λ x h. search rules) c.in_err-map_err.ensures.cases in
    rw (q.1, q.2, f.1) (sym (first_refused p l.seen _ f.0) ∙ l.invariant.1)

pub offset_bounds-seen-g : goal.offset_bounds-seen-g
offset_bounds-seen-g c = omega (arith, c.group_of-g.ensures.1)

pub bounds-seen-g : goal.bounds-seen-g
bounds-seen-g c = omega (arith, c.group_of-g.ensures.1)

pub overflow_add-seen : goal.overflow_add-seen
overflow_add-seen c = let l = c.loop-at in
    let k = c.read-x.result.kind in
    let f : get_or l.seen (row_of k).group 0 < (row_of k).most =
    passes_few l.seen k _ (passes c.judge.result c.judge.ensures c.in_ok-map_err.ensures.variant) in
    rw c.group_of-g.ensures.0 (omega (arith, f, most_small k))

pub bounds-seen-g-in-loop-at : goal.bounds-seen-g-in-loop-at
bounds-seen-g-in-loop-at c = omega (arith, c.group_of-g.ensures.1)

pub loop-at-smaller : goal.loop-at-smaller
loop-at-smaller c = let p = reads_step _ _ c.loop-at-test.true
    c.read-x.ensures
    (not-false _ c.if-not-x.false)
    c.next-end.ensures in omega (arith, p.far, p.within)

pub loop-at-preserved : goal.loop-at-preserved
loop-at-preserved c = let l = c.loop-at in
    let p = reads_step _ _ c.loop-at-test.true
    c.read-x.ensures
    (not-false _ c.if-not-x.false) c.next-end.ensures in (
      length-set l.seen _ _ ∙ l.invariant.0,
      rw c.group_of-g.ensures.0
          (sym (first_goes p l.seen (passes c.judge.result c.judge.ensures c.in_ok-map_err.ensures.variant)) ∙ l.invariant.1),
    )

pub returns : goal.returns
returns c = let l = c.loop-at in
    sym (first_ends _ l.at l.seen (omega (arith, c.loop-at-test.false))) ∙ l.invariant.1
