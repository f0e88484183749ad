-- `file_check::check` meets its contract: the first pass that refuses says what the definition says, and if none does it
-- accepts. Assumes nothing.
use native.Mathlib.Omega.{arith}
use Rattle.std.proofs.lemmas.Result.{err_from_is_err_and}
use Rattle.file_check.proofs.Whole.{too_long, first_says, reads, second_says, names, third_says}
use Rattle.file_check.proofs.check.Goals as goal

pub returns-then-s-gt-FILE : goal.returns-then-s-gt-FILE
returns-then-s-gt-FILE c = too_long c.args.s.now c.if-s-gt-FILE.true

pub returns-in_err-seen : goal.returns-in_err-seen
returns-in_err-seen c = let p = err_from_is_err_and c.from_residual.result c.from_residual.ensures.1 in
    rw (p.1, p.2) (first_says c.args.s.now (omega arith) _ _ c.in_err-seen.ensures)

pub second_pass-requires : goal.second_pass-requires
second_pass-requires c = reads c.args.s.now (omega arith) _ c.in_ok-seen.ensures

pub returns-in_err-second_pass : goal.returns-in_err-second_pass
returns-in_err-second_pass c = let r = c.from_residual-in_err-second_pass in
    let p = err_from_is_err_and r.result r.ensures.1 in
    rw (p.1, p.2) (second_says c.args.s.now (omega arith) _ c.in_ok-seen.ensures _ _ c.in_err-second_pass.ensures)

pub third_pass-requires : goal.third_pass-requires
third_pass-requires c = names c.args.s.now (omega arith) _ c.in_ok-seen.ensures c.in_ok-second_pass.ensures

pub returns : goal.returns
returns c = third_says c.args.s.now (omega arith) _ c.in_ok-seen.ensures c.in_ok-second_pass.ensures c.third_pass.ensures
