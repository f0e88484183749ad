-- `file_check_tails::all_branches` meets its contract. The loop's invariant: the rest fits, and what it passes is the answer.
-- Assumes nothing.
use Rattle.std.proofs.Common.{◌≡◌, ◌-◌, true, drop}
use Rattle.semantics.specs.Words.{all}
use Rattle.semantics.specs.Bytes.{u16}
use Rattle.semantics.specs.Record.{branches_fit, branches_from}
use Rattle.file_check_tails.specs.Tests.{Decides}
use Rattle.file_check_tails.proofs.all_branches.Given as goal

abbrev pub invariant-loop : goal.invariant-loop
invariant-loop g l =
    let n = u16 l.bs 0 in
    (branches_fit (n - l.counter) l.rest ≡ true)
    × ((d : Decides (goal.F-post g l.passes)) → all d.is (branches_from (n - l.counter) l.rest) ≡ all d.is (branches_from n
    (drop 2 l.bs)))
