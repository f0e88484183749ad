-- `file_index::may_loop` meets its contract, by the kinds. Assumes nothing.
use borrow.Author.Tests.{ne_eqb}
use Rattle.semantics.specs.Kinds as K
use Rattle.file_index.proofs.may_loop.Goals as goal

pub pair_at-requires : goal.pair_at-requires
pair_at-requires c = c.requires c.in-28.is

pub returns-in-27 : goal.returns-in-27
returns-in-27 c = rw c.in-27.is

pub returns-in-28 : goal.returns-in-28
returns-in-28 c = rw (c.in-28.is, c.body_of.ensures, c.pair_at.ensures)

pub returns-in_default : goal.returns-in_default
returns-in_default c = let r = c.in_default.in_default-own.rest in
    rw (ne_eqb c.args.kind K.WHILE r.0.1, ne_eqb c.args.kind K.START r.1)
