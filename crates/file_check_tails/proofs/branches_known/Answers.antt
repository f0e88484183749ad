-- `file_check_tails::branches_known` meets its contract. Assumes nothing.
use Rattle.std.proofs.Common.{rules, List, ℕ, Bool, ltb, ◌&&◌, get_or, drop}
use Rattle.semantics.specs.Words.{all}
use Rattle.semantics.specs.Kinds as K
use Rattle.semantics.specs.Bytes.{u16}
use Rattle.semantics.specs.Record.{parts_of, item}
use Rattle.semantics.specs.Decode.{part_known}
use Rattle.file_check_tails.proofs.branches_known.Goals as goal

known : List ℕ → List ℕ → Bool
known n b = ltb (u16 b 0) (get_or n K.BLOCK 0) && all (part_known item n) (parts_of item (drop 2 b))

pub all_branches-requires-clause-decided : goal.all_branches-requires-clause-decided
unfolding known
all_branches-requires-clause-decided c = record { is = known c.args.n; so = λ b r e. search rules }

pub returns : goal.returns
unfolding known
returns c = c.all_branches.ensures (record { is = known c.args.n; so = λ b r e. search rules })
