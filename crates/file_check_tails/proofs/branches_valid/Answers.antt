-- `file_check_tails::branches_valid` meets its contract. Assumes nothing.
use Rattle.std.proofs.Common.{rules, drop}
use Rattle.semantics.specs.Record.{list_valid, item}
use Rattle.file_check_tails.proofs.branches_valid.Goals as goal

pub all_branches-requires-clause-decided : goal.all_branches-requires-clause-decided
all_branches-requires-clause-decided c = record { is = λ b. list_valid item (drop 2 b); so = λ b r e. search rules }

pub returns : goal.returns
returns c = rw (c.all_branches.ensures (record { is = λ b. list_valid item (drop 2 b); so = λ b r e. search rules })) (search rules)
