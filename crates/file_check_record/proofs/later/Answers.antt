-- `file_check_record::later` meets its contract. Assumes nothing.
use Prim.Native.Nat.{◌≤◌}
use lib.ListN.{length}
use mathlib.Core.Bool.{true}
use mathlib.Core.Path.{◌≡◌, ◌∙◌}
use native.Mathlib.Omega.{arith}
use Rattle.file_check_record.proofs.Rules.{later_do, later_try, later_while, later_none}
use Rattle.semantics.specs.Record.{row_of, branches, sized}
use Rattle.file_check_record.proofs.later.Goals as goal

pub u16_at-requires : goal.u16_at-requires
unfolding row_of
u16_at-requires c = let h : 4 ≤ length c.args.bs.now = rw c.in-20.is at
    c.requires.head_in in
    omega (arith, h)

pub branches_later-requires : goal.branches_later-requires
unfolding row_of
branches_later-requires c = let h : sized branches c.args.bs.now ≡ true = rw c.in-26.is at
    c.requires.tail_sized in h

pub u16_at-requires-in-27 : goal.u16_at-requires-in-27
unfolding row_of
u16_at-requires-in-27 c = let h : 2 ≤ length c.args.bs.now = rw c.in-27.is at
    c.requires.head_in in
    omega (arith, h)

pub returns-in-20 : goal.returns-in-20
returns-in-20 c = rw (c.in-20.is, c.u16_at.ensures.0) (later_do c.args.own
    c.args.bs.now)

pub returns-in-26 : goal.returns-in-26
returns-in-26 c = rw c.in-26.is (c.branches_later.ensures ∙ later_try
    c.args.own c.args.bs.now)

pub returns-in-27 : goal.returns-in-27
returns-in-27 c = rw (c.in-27.is, c.u16_at-in-27.ensures.0) (later_while c.args.own
    c.args.bs.now)

pub returns-in_default : goal.returns-in_default
returns-in_default c = let r = c.in_default.in_default-own.rest in
    later_none c.args.own c.args.kind c.args.bs.now
    r.0.0.1 r.0.1 r.1
