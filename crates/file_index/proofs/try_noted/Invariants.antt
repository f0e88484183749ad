-- `file_index::try_noted` meets its contract. The loop's invariant: the rest fits and ends where the file may end, and its
-- branches are still to be written. Assumes nothing.
use lib.ListN.{length}
use mathlib.Core.Bool.{true}
use mathlib.Core.Path.{◌≡◌}
use Prim.Native.Nat.{◌+◌, ◌-◌, ◌≤◌}
use Rattle.semantics.specs.Numbers as No
use Rattle.file_index.proofs.Rows.{RowsFill}
use Rattle.file_index.specs.Branches.{rows, offered_at, offered_try}
use Rattle.semantics.specs.Bytes.{u16}
use Rattle.semantics.specs.Record.{branches_from, branches_fit}
use Rattle.file_index.proofs.try_noted.Given as goal

abbrev pub invariant-loop : goal.invariant-loop
invariant-loop l = (l.here + length l.rest ≤ No.longest_file) × ((branches_fit (u16 l.bs 0 - l.counter) l.rest ≡ true)
    × RowsFill (rows l.initial.claim l.initial.resources l.initial.bins l.initial.syncs) l.n (offered_try l.at l.bs) (rows l.claim l.resources l.bins l.syncs) l.next
    (offered_at l.here (branches_from (u16 l.bs 0 - l.counter) l.rest)))
