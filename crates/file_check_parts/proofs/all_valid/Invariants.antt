-- `file_check_parts::all_valid` meets its contract. The loop's invariant: what is found so far and the parts that are
-- left decide. Assumes nothing.
use Rattle.std.proofs.Common.{◌≡◌, ◌*◌, ◌≤◌, ◌&&◌, length}
use Rattle.semantics.specs.Words.{all}
use Rattle.semantics.specs.Bytes.{parts}
use Rattle.file_check_parts.proofs.all_valid.Given as goal

abbrev pub invariant-loop-part : goal.invariant-loop-part
invariant-loop-part g l =
    let k = g.P.Part.SIZE in
    let i = l.part-iterator in
    let p = g.P.Part.is_valid in
    (i.iter.size ≡ k)
    × (k * i.n ≤ length i.iter.rest.now)
    × ((l.ok && all p (parts k i.n i.iter.rest.now)) ≡ all p (parts k l.count l.bs))
