-- `file_index::branches_named` meets its contract. The loop's invariant: the rest fits, and its blocks are still to be written.
-- Assumes nothing.
use mathlib.Core.Bool.{true}
use Prim.Native.Nat.{◌-◌}
use mathlib.Core.Path.{◌≡◌}
use Rattle.file_index.proofs.Tries.{blocks_from}
use Rattle.file_index.proofs.Filled.{Fills}
use Rattle.file_index.specs.Index.{branch_blocks}
use Rattle.semantics.specs.Bytes.{u16}
use Rattle.semantics.specs.Record.{branches_fit}
use Rattle.file_index.proofs.branches_named.Given as goal

abbrev pub invariant-loop : goal.invariant-loop
invariant-loop l = (branches_fit (u16 l.bs 0 - l.counter) l.rest ≡ true) × Fills l.initial.out l.n (branch_blocks l.bs) l.out l.at (blocks_from (u16 l.bs 0 - l.counter) l.rest)
