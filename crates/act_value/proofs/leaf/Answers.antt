-- `act_value::leaf` meets its contract. Assumes nothing.
use Rattle.act_value.proofs.Values.{clock_code}
use Rattle.act_value.specs.Reading.{leaf_code}
use Rattle.act_value.proofs.leaf.Goals as goal

pub code_at-requires : goal.code_at-requires
code_at-requires c = c.requires.1.0 c.in-1.is

pub code_at-requires-in-2 : goal.code_at-requires-in-2
code_at-requires-in-2 c = c.requires.1.1 c.in-2.is

pub returns-in-0 : goal.returns-in-0
unfolding leaf_code
returns-in-0 c = rw c.in-0.is c.from_twos.ensures

pub returns-in-1 : goal.returns-in-1
unfolding leaf_code
returns-in-1 c = rw c.in-1.is c.code_at.ensures

pub returns-in-2 : goal.returns-in-2
unfolding leaf_code
returns-in-2 c = rw c.in-2.is c.code_at-in-2.ensures

pub returns-in_default : goal.returns-in_default
returns-in_default c = let r = c.in_default.in_default-own.rest in
    let a = c.args in
    clock_code _ _ a.clock a.op a.operand r.0.0.1 r.0.1 r.1
