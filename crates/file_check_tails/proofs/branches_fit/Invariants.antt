-- `file_check_tails::branches_fit` meets its contract. The loop's invariant: the rest fits exactly if the whole does.
-- Assumes nothing.
use Prim.Native.Nat.{◌-◌}
use mathlib.Core.Path.{◌≡◌}
use Rattle.semantics.specs.Record.{branches_fit}
use Rattle.file_check_tails.proofs.branches_fit.Given as goal

abbrev pub invariant-loop : goal.invariant-loop
invariant-loop l = branches_fit (l.count - l.counter) l.rest ≡ branches_fit l.count l.bs
