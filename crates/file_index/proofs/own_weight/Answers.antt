-- `file_index::own_weight` meets its contract: the code's table computes to the definitions', and past it a list has its
-- default. Assumes nothing.
use borrow.Author.Tests.{le-leb, lt-leb}
use lib.ListN.{get_or-eq_default}
use mathlib.Core.Path.{sym}
use Rattle.semantics.specs.Bound.{own_weights}
use Rattle.file_index.proofs.own_weight.Goals as goal

pub returns-then-k-lt-ACTS : goal.returns-then-k-lt-ACTS
returns-then-k-lt-ACTS c = rw (le-leb _ _ c.if-kind-ge-HOLD.true)

pub returns-else-k-lt-ACTS : goal.returns-else-k-lt-ACTS
returns-else-k-lt-ACTS c = rw (le-leb _ _ c.if-kind-ge-HOLD.true) (sym (get_or-eq_default own_weights 0 c.if-k-lt-ACTS.false))

pub returns-else-kind-ge-HOLD : goal.returns-else-kind-ge-HOLD
returns-else-kind-ge-HOLD c = rw (lt-leb _ _ c.if-kind-ge-HOLD.false)
