-- `run_limit::halted` meets its contract. Assumes nothing.
use native.Mathlib.Omega.{arith}
use mathlib.Core.Bool.{true, false}
use Rattle.run_limit.proofs.Asked.{head_there, by_closed, by_idle}
use Rattle.run_limit.proofs.halted.Goals as goal

pub bounds-w-1 : goal.bounds-w-1
bounds-w-1 c = omega (arith, head_there c.requires)

pub returns-then-w-ne0 : goal.returns-then-w-ne0
returns-then-w-ne0 c = λ v. by_closed v c.if-w-ne0.true

pub bounds-w-3 : goal.bounds-w-3
bounds-w-3 c = omega (arith, head_there c.requires)

pub bounds-w-5 : goal.bounds-w-5
bounds-w-5 c = omega (arith, head_there c.requires)

pub returns-then-w : goal.returns-then-w
returns-then-w c = λ v. by_idle v true c.if-w-ne0.false c.if-w.true

pub returns : goal.returns
returns c = λ v. by_idle v false c.if-w-ne0.false c.if-w.false
