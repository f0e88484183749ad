-- `file_bound::bound` meets its contract: the check's refusal, then the loops, then the total say what the definition says.
-- Assumes nothing.
use mathlib.Core.Path.{sym, ◌∙◌}
use native.Mathlib.Omega.{arith}
use Rattle.std.proofs.lemmas.Result.{err_from_is_err_and}
use Rattle.file_bound.proofs.Answer.{refused_says, accepts, reads, loops_are, none_says, endable, at_says, over_says}
use Rattle.file_bound.proofs.bound.Goals as goal

pub returns-in_err-check : goal.returns-in_err-check
returns-in_err-check c = let p = err_from_is_err_and c.from_residual.result c.from_residual.ensures.1 in
    rw (p.1, p.2) (refused_says c.args.s.now _ _ c.in_err-check.ensures)

pub index_of-x-requires : goal.index_of-x-requires
index_of-x-requires c = reads c.args.s.now (accepts c.args.s.now c.in_ok-check.ensures)

pub loops-requires : goal.loops-requires
loops-requires c = reads c.args.s.now (accepts c.args.s.now c.in_ok-check.ensures)

pub returns-then-loops : goal.returns-then-loops
returns-then-loops c = let a = accepts c.args.s.now c.in_ok-check.ensures in
    none_says c.args.s.now a
    (sym (loops_are c.args.s.now a c.index_of-x.result c.index_of-x.ensures c.loops.result c.loops.ensures) ∙ c.if-loops.true)

pub total-w-requires : goal.total-w-requires
total-w-requires c = let a = accepts c.args.s.now c.in_ok-check.ensures in
    endable c.args.s.now a
    (sym (loops_are c.args.s.now a c.index_of-x.result c.index_of-x.ensures c.loops.result c.loops.ensures) ∙ c.if-loops.false)

pub returns-then-w-lt-OVER : goal.returns-then-w-lt-OVER
returns-then-w-lt-OVER c = let a = accepts c.args.s.now c.in_ok-check.ensures in
    at_says c.args.s.now a
    (sym (loops_are c.args.s.now a c.index_of-x.result c.index_of-x.ensures c.loops.result c.loops.ensures) ∙ c.if-loops.false)
    _ c.total-w.ensures c.if-w-lt-OVER.true

pub returns : goal.returns
returns c = let a = accepts c.args.s.now c.in_ok-check.ensures in
    over_says c.args.s.now a
    (sym (loops_are c.args.s.now a c.index_of-x.result c.index_of-x.ensures c.loops.result c.loops.ensures) ∙ c.if-loops.false)
    _ c.total-w.ensures (omega arith)
