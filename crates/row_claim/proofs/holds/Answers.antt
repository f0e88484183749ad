-- `row_claim::holds` meets its contract: the order of codes is the order of numbers. Assumes nothing.
use mathlib.Core.Path.{sym, ap}
use mathlib.Core.Bool.{not}
use Rattle.base_i32.specs.Laws.{value_order}
use Rattle.row_claim.proofs.Relations.{codes_below, codes_equal, else_equals}
use Rattle.row_claim.proofs.holds.Goals as goal

pub returns-in-1 : goal.returns-in-1
returns-in-1 c = rw c.in-1.is (codes_below _ _)

pub returns-in-2 : goal.returns-in-2
returns-in-2 c = rw c.in-2.is (sym (value_order _ _))

pub returns-in-4 : goal.returns-in-4
returns-in-4 c = rw c.in-4.is (ap not (codes_equal _ _))

pub returns-in-5 : goal.returns-in-5
returns-in-5 c = rw c.in-5.is (sym (value_order _ _))

pub returns-in-6 : goal.returns-in-6
returns-in-6 c = rw c.in-6.is (codes_below _ _)

pub returns-in_default : goal.returns-in_default
returns-in_default c = let r = c.in_default.in_default-own.rest in
    rw (else_equals c.args.relation r.0.0.0.0.1 r.0.0.0.1 r.0.0.1 r.0.1 r.1)
    (codes_equal _ _)
