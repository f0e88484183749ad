-- `act_req_try_while::said` meets its contract. Assumes nothing.
use native.Mathlib.Omega.{arith}
use mathlib.Core.Path.{sym, subst, ap}
use Rattle.act_req_try_while.specs.Asks.{Few, code_said}
use Rattle.act_req_try_while.proofs.said.Goals as goal

pub overflow_add-result : goal.overflow_add-result
overflow_add-result c = omega (arith, subst Few c.in-Lacks.is c.requires)

pub returns-in-Lacks : goal.returns-in-Lacks
returns-in-Lacks c = sym (ap code_said c.in-Lacks.is)
