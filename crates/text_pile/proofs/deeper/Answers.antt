-- `text_pile::deeper` meets its contract. Assumes nothing.
use borrow.Author.Tests.{lt-ltb, le-ltb}
use Rattle.text_pile.proofs.deeper.Goals as goal

pub returns-then-symbol-lt-EXPRESSION : goal.returns-then-symbol-lt-EXPRESSION
returns-then-symbol-lt-EXPRESSION c = rw (lt-ltb _ _ c.if-symbol-lt-EXPRESSION.true)

pub returns : goal.returns
returns c = rw (le-ltb _ _ c.if-symbol-lt-EXPRESSION.false)
