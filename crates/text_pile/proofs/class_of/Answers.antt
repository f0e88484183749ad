-- `text_pile::class_of` meets its contract. Assumes nothing.
use native.Mathlib.Omega.{arith}
use borrow.Author.Tests.{lt-ltb, le-ltb}
use Rattle.text_pile.specs.Table.{class_of}
use Rattle.text_pile.proofs.class_of.Goals as goal

pub returns-then-symbol-lt-DEEP : goal.returns-then-symbol-lt-DEEP
unfolding class_of
returns-then-symbol-lt-DEEP c = (rw (lt-ltb _ _ c.if-symbol-lt-DEEP.true), omega arith, omega arith)

pub returns : goal.returns
unfolding class_of
returns c = (rw (le-ltb _ _ c.if-symbol-lt-DEEP.false), omega arith, omega arith)
