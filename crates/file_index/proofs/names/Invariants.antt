-- `file_index::names` meets its contract. The loop's invariant: what is found so far, with what the items that are left name, is
-- all that is named. Assumes nothing.
use lib.Bits.{bit_or}
use lib.ListN.{length}
use mathlib.Core.Path.{◌≡◌}
use Prim.Native.Nat.{◌≤◌, ◌*◌}
use Rattle.file_index.specs.Branches.{bits_of, named_in}
use Rattle.semantics.specs.Bytes.{parts}
use Rattle.file_index.proofs.names.Given as goal

abbrev pub invariant-loop-item : goal.invariant-loop-item
invariant-loop-item l =
    let i = l.item-iterator in
    (i.iter.size ≡ 8)
    × (8 * i.n ≤ length i.iter.rest.now)
    × (bit_or l.found (bits_of l.j (parts 8 i.n i.iter.rest.now)) ≡ named_in l.j l.s)
