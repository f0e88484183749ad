-- `row_lists::waiter_key` meets its contract. Assumes nothing.
use native.Mathlib.Omega.{arith}
use Prim.Native.Nat.{◌-◌}
use mathlib.Core.Path.{◌∙◌, ap}
use Rattle.base_numbers.specs.Code as Code
use Rattle.row_lists.proofs.Events.{long}
use Rattle.row_lists.proofs.Standing.{priority_is, priority_low}
use Rattle.row_lists.proofs.waiter_key.Goals as goal

pub word-requires : goal.word-requires
word-requires c = let v = c.requires in (long v, (v.given, omega arith))

pub overflow_sub-result : goal.overflow_sub-result
overflow_sub-result c = let v = c.requires in
    omega (arith, c.word.ensures ∙ priority_is v _ v.given, priority_low v c.args.p)

pub returns : goal.returns
returns c = λ v. ap (λ n. Code.HIGHEST - n) (c.word.ensures ∙ priority_is v _ v.given)
