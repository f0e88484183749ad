-- `file_check_parts::named_again` meets its contract. The loop's invariant: the parts that are left decide. Assumes nothing.
use Rattle.std.proofs.Common.{◌≡◌, ◌*◌, ◌≤◌, length}
use Rattle.semantics.specs.Words.{any}
use Rattle.semantics.specs.Bytes.{parts}
use Rattle.semantics.specs.Record.{same_part}
use Rattle.file_check_parts.proofs.named_again.Given as goal

abbrev pub invariant-loop-part : goal.invariant-loop-part
invariant-loop-part g l =
    let k = g.P.Part.SIZE in
    let i = l.part-iterator in
    let p = same_part g.P.Listed.kind l.x in
    (i.iter.size ≡ k)
    × (k * i.n ≤ length i.iter.rest.now)
    × (any p (parts k i.n i.iter.rest.now) ≡ any p (parts k l.count l.bs))
