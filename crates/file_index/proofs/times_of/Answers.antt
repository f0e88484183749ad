-- `file_index::times_of` meets its contract, by the kinds. Assumes nothing.
use borrow.Author.Tests.{ne_eqb}
use native.Mathlib.Omega.{arith}
use Rattle.semantics.specs.Kinds as K
use Rattle.file_index.proofs.times_of.Goals as goal

pub pair_at-requires : goal.pair_at-requires
pair_at-requires c = omega (arith, c.requires c.in-20.is)

pub returns-in-20 : goal.returns-in-20
returns-in-20 c = rw c.in-20.is c.pair_at.ensures

pub returns-in-26 : goal.returns-in-26
returns-in-26 c = rw c.in-26.is

pub returns-in-28 : goal.returns-in-28
returns-in-28 c = rw c.in-28.is

pub returns-in_default : goal.returns-in_default
returns-in_default c = let r = c.in_default.in_default-own.rest in
    let k = c.args.kind in
    rw (ne_eqb k K.DO r.0.0.1, ne_eqb k K.TRY r.0.1, ne_eqb k K.START r.1)
