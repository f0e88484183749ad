-- `file_check_record::judge_body` meets its contract: each test is the definition's, by the row that the code read. Assumes
-- nothing.
use Prim.Native.Nat.{◌≤◌, ◌<◌}
use borrow.Author.Tests.{le-leb, lt-leb}
use lib.ListN.{length, drop}
use mathlib.Core.Bool.{true, false}
use mathlib.Core.Path.{◌≡◌, sym, ◌∙◌}
use Rattle.file_check_record.proofs.Rules.{tail_is, tail_read, body_is}
use Rattle.file_check_record.specs.Rows.{column_of}
use Rattle.semantics.specs.Record.{row_of, sized, valid, twice}
use Rattle.file_check_record.proofs.judge_body.Goals as goal

pub returns-then-bs-head : goal.returns-then-bs-head
unfolding column_of
returns-then-bs-head c = let r = row_of c.args.kind in
    let h : length c.args.bs.now < r.head = rw c.entry-head.ensures at c.if-bs-head.true in
    sym (body_is r c.args.bs.now ∙ rw (lt-leb _ _ h))

pub returns-then-not-tail_sized : goal.returns-then-not-tail_sized
unfolding column_of
returns-then-not-tail_sized c = let r = row_of c.args.kind in
    let bs = c.args.bs.now in
    let h : r.head ≤ length bs = rw c.entry-head.ensures at
    c.if-bs-head.false in
    let s : sized r.tail (drop r.head bs) ≡ false = sym (tail_is sized r bs _ _
    c.entry-head.ensures (tail_read (row_of c.args.kind) c.of-tail.ensures c.entry.ensures)) ∙ sym
    c.tail_sized.ensures ∙ c.if-not-tail_sized.true in
    sym (body_is r bs ∙ rw (le-leb _ _ h, s))

pub in_set-requires : goal.in_set-requires
unfolding column_of
in_set-requires c = rw c.entry-head.ensures at
    c.if-bs-head.false

pub tail_valid-requires : goal.tail_valid-requires
tail_valid-requires c = sym c.tail_sized.ensures ∙ c.if-not-tail_sized.false

pub returns-then-not-in_set-tail_valid : goal.returns-then-not-in_set-tail_valid
unfolding column_of
returns-then-not-in_set-tail_valid c = let r = row_of c.args.kind in
    let bs = c.args.bs.now in
    let i = c.entry-head.ensures in
    let j = (tail_read (row_of c.args.kind) c.of-tail.ensures c.entry.ensures) in
    let h : r.head ≤ length bs = rw i at c.if-bs-head.false in
    let s : sized r.tail (drop r.head bs) ≡ true = sym (tail_is sized r bs _ _ i j) ∙ sym
    c.tail_sized.ensures ∙ c.if-not-tail_sized.false in
    let v = tail_is valid r bs _ _ i j in
    sym (body_is r bs ∙ rw (
      le-leb _ _ h,
      s,
      ← v,
      ← c.in_set.ensures,
      ← c.tail_valid.ensures,
      c.if-not-in_set-tail_valid.true,
    ))

pub tail_twice-requires : goal.tail_twice-requires
tail_twice-requires c = sym c.tail_sized.ensures ∙ c.if-not-tail_sized.false

pub returns-then-tail_twice : goal.returns-then-tail_twice
unfolding column_of
returns-then-tail_twice c = let r = row_of c.args.kind in
    let bs = c.args.bs.now in
    let i = c.entry-head.ensures in
    let j = (tail_read (row_of c.args.kind) c.of-tail.ensures c.entry.ensures) in
    let h : r.head ≤ length bs = rw i at c.if-bs-head.false in
    let s : sized r.tail (drop r.head bs) ≡ true = sym (tail_is sized r bs _ _ i j) ∙ sym
    c.tail_sized.ensures ∙ c.if-not-tail_sized.false in
    let v = tail_is valid r bs _ _ i j in
    let t = tail_is twice r bs _ _ i j in
    sym (body_is r bs ∙ rw (
      le-leb _ _ h,
      s,
      ← v,
      ← t,
      ← c.in_set.ensures,
      ← c.tail_valid.ensures,
      c.if-not-in_set-tail_valid.false,
      ← c.tail_twice.ensures,
      c.if-tail_twice.true,
    ))

pub returns : goal.returns
unfolding column_of
returns c = let r = row_of c.args.kind in
    let bs = c.args.bs.now in
    let i = c.entry-head.ensures in
    let j = (tail_read (row_of c.args.kind) c.of-tail.ensures c.entry.ensures) in
    let h : r.head ≤ length bs = rw i at c.if-bs-head.false in
    let s : sized r.tail (drop r.head bs) ≡ true = sym (tail_is sized r bs _ _ i j) ∙ sym
    c.tail_sized.ensures ∙ c.if-not-tail_sized.false in
    let v = tail_is valid r bs _ _ i j in
    let t = tail_is twice r bs _ _ i j in
    sym (body_is r bs ∙ rw (
      le-leb _ _ h,
      s,
      ← v,
      ← t,
      ← c.in_set.ensures,
      ← c.tail_valid.ensures,
      c.if-not-in_set-tail_valid.false,
      ← c.tail_twice.ensures,
      c.if-tail_twice.false,
    ))
