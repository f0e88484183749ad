-- `file_check_parts::parts_repeat` meets its contract. The loop's invariant: the parts that are left decide. Assumes nothing.
use Rattle.std.proofs.Common.{◌≡◌, ◌*◌, ◌≤◌, length}
use Rattle.semantics.specs.Bytes.{parts}
use Rattle.semantics.specs.Record.{same_part, repeats}
use Rattle.file_check_parts.proofs.parts_repeat.Given as goal

abbrev pub invariant-loop-left : goal.invariant-loop-left
invariant-loop-left g l =
    let k = g.P.Part.SIZE in
    let same = same_part g.P.Listed.kind in
    (k * l.left ≤ length l.rest)
    × (repeats same (parts k l.left l.rest) ≡ repeats same (parts k l.count l.bs))
