-- `file_check_record::name` meets its contract. Assumes nothing.
use mathlib.Core.Path.{sym, ◌∙◌}
use Rattle.file_check_record.proofs.Rules.{tail_is, tail_read, named_is}
use Rattle.file_check_record.specs.Rows.{column_of}
use Rattle.semantics.specs.Decode.{tail_known}
use Rattle.semantics.specs.Record.{row_of, sized}
use Rattle.file_check_record.proofs.name.Goals as goal

pub field_known-requires : goal.field_known-requires
field_known-requires c = c.requires.head_in

pub slice_bounds-tail_known-count : goal.slice_bounds-tail_known-count
unfolding column_of
slice_bounds-tail_known-count c = rw c.entry-head.ensures c.requires.head_in

pub slice_bounds-tail_known-start : goal.slice_bounds-tail_known-start
unfolding column_of
slice_bounds-tail_known-start c = rw c.entry-head.ensures c.requires.head_in

pub tail_known-requires : goal.tail_known-requires
unfolding column_of
tail_known-requires c = let r = row_of c.args.kind in
    tail_is sized r c.args.bs.now _ _
    c.entry-head.ensures (tail_read (row_of c.args.kind) c.of-tail.ensures c.entry.ensures) ∙ c.requires.tail_sized

pub returns-then-not-field_known-tail_known : goal.returns-then-not-field_known-tail_known
unfolding column_of
returns-then-not-field_known-tail_known c = let o = c.args in
    let t = tail_is (tail_known o.n) (row_of o.kind) o.bs.now _ _
    c.entry-head.ensures (tail_read (row_of c.args.kind) c.of-tail.ensures c.entry.ensures) in
    sym (named_is o.n o.own o.kind o.bs.now ∙ rw (
      ← t,
      ← c.field_known.ensures,
      ← c.tail_known.ensures,
      c.if-not-field_known-tail_known.true,
    ))

pub later-requires : goal.later-requires
later-requires c = c.requires

pub returns-then-not-later : goal.returns-then-not-later
unfolding column_of
returns-then-not-later c = let o = c.args in
    let t = tail_is (tail_known o.n) (row_of o.kind) o.bs.now _ _
    c.entry-head.ensures
    (tail_read (row_of c.args.kind) c.of-tail.ensures c.entry.ensures) in
    sym (named_is o.n o.own o.kind o.bs.now ∙ rw (
      ← t,
      ← c.field_known.ensures,
      ← c.tail_known.ensures,
      c.if-not-field_known-tail_known.false,
      ← c.later.ensures,
      c.if-not-later.true,
    ))

pub returns : goal.returns
unfolding column_of
returns c = let o = c.args in
    let t = tail_is (tail_known o.n) (row_of o.kind) o.bs.now _ _
    c.entry-head.ensures
    (tail_read (row_of c.args.kind) c.of-tail.ensures c.entry.ensures) in
    sym (named_is o.n o.own o.kind o.bs.now ∙ rw (
      ← t,
      ← c.field_known.ensures,
      ← c.tail_known.ensures,
      c.if-not-field_known-tail_known.false,
      ← c.later.ensures,
      c.if-not-later.false,
    ))
