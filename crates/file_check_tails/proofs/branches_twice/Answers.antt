-- `file_check_tails::branches_twice` meets its contract. Assumes nothing.
use Rattle.std.proofs.Common.{rules, List, ℕ, Bool, sym, refl, not, drop}
use Rattle.semantics.specs.Bytes.{u16}
use Rattle.semantics.specs.Record.{list_twice, item, branches_from}
use Rattle.file_check_tails.proofs.Branches.{any-not}
use Rattle.file_check_tails.proofs.branches_twice.Goals as goal

pub all_branches-requires-clause-decided : goal.all_branches-requires-clause-decided
all_branches-requires-clause-decided c = record { is = λ b. not (list_twice item (drop 2 b)); so = λ b r e. search rules }

pub returns : goal.returns
returns c =
    let bs = c.args.bs.now in
    let once : List ℕ → Bool = λ b. not (list_twice item (drop 2 b)) in
    rw (c.all_branches.ensures (record { is = once; so = λ b r e. search rules })) (sym (any-not (λ b. list_twice item (drop 2 b)) once (λ b. refl)
    (branches_from (u16 bs 0) (drop 2 bs))))
