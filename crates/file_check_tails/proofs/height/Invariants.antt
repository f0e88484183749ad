-- `file_check_tails::height` meets its contract. The loop's invariant: h is the height, and one, of the pile of the nodes from
-- the k-th on. Assumes nothing.
use Prim.Native.Nat.{◌≤◌, ◌-◌, ◌+◌, ◌*◌}
use lib.ListN.{drop}
use mathlib.Core.Path.{◌≡◌}
use Rattle.semantics.specs.Bytes.{parts}
use Rattle.semantics.specs.Record.{pile}
use Rattle.file_check_tails.specs.Tails.{height_of}
use Rattle.file_check_tails.proofs.height.Given as goal

abbrev pub invariant-loop-k : goal.invariant-loop-k
invariant-loop-k l = (l.k ≤ l.n) × ((l.h + l.k ≤ l.n + 1) × (l.h ≡ height_of (pile (parts 6 (l.n - l.k) (drop (6 * l.k) l.bs)))))
