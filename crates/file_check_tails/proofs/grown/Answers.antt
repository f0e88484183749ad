-- `file_check_tails::grown` meets its contract. Assumes nothing.
use borrow.Author.Tests.{le-leb, lt-leb}
use native.Mathlib.Omega.{arith}
use Rattle.file_check_tails.specs.Tails.{grown_by}
use Rattle.file_check_tails.proofs.grown.Goals as goal

pub returns-then-a-h : goal.returns-then-a-h
unfolding grown_by
returns-then-a-h c = (rw (le-leb _ _ c.if-a-h.true), omega arith)

pub returns-else-a-h : goal.returns-else-a-h
unfolding grown_by
returns-else-a-h c = (rw (lt-leb _ _ c.if-a-h.false), omega arith)
