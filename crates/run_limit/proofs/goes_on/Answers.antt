-- `run_limit::goes_on` meets its contract. Assumes nothing.
use native.Mathlib.Omega.{arith}
use Rattle.run_limit.proofs.Asked.{head_there, may_go_lem}
use Rattle.run_limit.proofs.goes_on.Goals as goal

pub bounds-w-1 : goal.bounds-w-1
bounds-w-1 c = omega (arith, head_there c.requires)

pub bounds-w-3 : goal.bounds-w-3
bounds-w-3 c = omega (arith, head_there c.requires)

pub bounds-w-5 : goal.bounds-w-5
bounds-w-5 c = omega (arith, head_there c.requires)

pub returns : goal.returns
returns c = λ v. may_go_lem v
