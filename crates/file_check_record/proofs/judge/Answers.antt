-- `file_check_record::judge` meets its contract. Assumes nothing.
use Prim.Native.Nat.{◌≤◌, ◌<◌}
use lib.ListN.{get_or}
use mathlib.Core.Bool.{true, false}
use mathlib.Core.Path.{◌≡◌, sym, ◌∙◌}
use native.Mathlib.Omega.{arith}
use Rattle.file_check_record.proofs.Rules.{judged_2, judged_3, judged_4, judged_on}
use Rattle.file_check_record.proofs.Table.{group_small}
use Rattle.file_check_record.specs.Rows.{column_of}
use Rattle.semantics.specs.Decode.{placed}
use Rattle.semantics.specs.Record.{row_of}
use Rattle.file_check_record.proofs.judge.Goals as goal

pub returns-then-group-eq-NONE : goal.returns-then-group-eq-NONE
unfolding column_of
returns-then-group-eq-NONE c = judged_2 c.args.seen c.args.kind
    c.args.bs.now (sym c.entry-group.ensures ∙ c.if-group-eq-NONE.true)

pub returns-then-not-in_place : goal.returns-then-not-in_place
unfolding column_of
returns-then-not-in_place c = let o = c.args in
    let g : c.entry-group.result ≡ (row_of o.kind).group = c.entry-group.ensures in
    let l = c.if-group-eq-NONE.false in
    let p : placed (row_of o.kind).group (get_or o.seen 6 0) ≡ false = rw g at (sym
    c.in_place.ensures ∙ c.if-not-in_place.true) in
    judged_3 o.seen o.kind o.bs.now (omega (arith, g, l)) p

pub bounds-seen-g : goal.bounds-seen-g
unfolding column_of
bounds-seen-g c = omega (
  arith,
  c.entry-group.ensures,
  group_small
      c.args.kind,
)

pub returns-then-most-before : goal.returns-then-most-before
unfolding column_of
returns-then-most-before c = let o = c.args in
    let g : c.entry-group.result ≡ (row_of
    o.kind).group = c.entry-group.ensures in
    let l = c.if-group-eq-NONE.false in
    let p : placed (row_of o.kind).group (get_or o.seen 6 0) ≡ true = rw g at (sym
    c.in_place.ensures ∙ c.if-not-in_place.false) in
    let m : (row_of o.kind).most ≤ get_or o.seen (row_of o.kind).group 0 = rw (g, c.entry-most.ensures) at
    c.if-most-before.true in
    judged_4 o.seen o.kind o.bs.now (omega (arith, g, l)) p m

pub returns : goal.returns
unfolding column_of
returns c = let o = c.args in
    let g : c.entry-group.result ≡ (row_of
    o.kind).group = c.entry-group.ensures in
    let l = c.if-group-eq-NONE.false in
    let p : placed (row_of o.kind).group (get_or o.seen 6 0) ≡ true = rw g at (sym
    c.in_place.ensures ∙ c.if-not-in_place.false) in
    let m : get_or o.seen (row_of o.kind).group 0 < (row_of o.kind).most = rw (
      g,
      c.entry-most.ensures,
    ) at c.if-most-before.false in
    c.judge_body.ensures ∙ judged_on o.seen o.kind o.bs.now (omega (arith, g, l)) p m
