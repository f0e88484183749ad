-- `file_check_tails::branches_later` meets its contract. Assumes nothing.
use Rattle.std.proofs.Common.{rules, leb}
use Rattle.semantics.specs.Bytes.{u16}
use Rattle.file_check_tails.proofs.branches_later.Goals as goal

pub all_branches-requires-clause-decided : goal.all_branches-requires-clause-decided
all_branches-requires-clause-decided c = record { is = λ b. leb c.args.own (u16 b 0); so = λ b r e. search rules }

pub returns : goal.returns
returns c = c.all_branches.ensures (record { is = λ b. leb c.args.own (u16 b 0); so = λ b r e. search rules })
