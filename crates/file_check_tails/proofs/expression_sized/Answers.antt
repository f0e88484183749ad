-- `file_check_tails::expression_sized` meets its contract. Assumes nothing.
use borrow.Author.Tests.{le-leb, lt-leb, ne_eqb, eq-eqb}
use Rattle.semantics.specs.Record.{pile, nodes}
use Rattle.file_check_tails.proofs.Pile.{tree_height}
use Rattle.file_check_tails.proofs.expression_sized.Goals as goal

pub returns-then-bs-ne0 : goal.returns-then-bs-ne0
returns-then-bs-ne0 c = rw (ne_eqb _ _ c.if-bs-ne0.true)

pub returns-then-n-lt1 : goal.returns-then-n-lt1
returns-then-n-lt1 c = rw (eq-eqb _ _ c.if-bs-ne0.false, lt-leb _ _ c.if-n-lt1.true)

pub returns-then-n-gt-NODES : goal.returns-then-n-gt-NODES
returns-then-n-gt-NODES c = rw (eq-eqb _ _ c.if-bs-ne0.false, le-leb _ _ c.if-n-lt1.false, lt-leb _ _ c.if-n-gt-NODES.true)

pub returns : goal.returns
returns c = let bs = c.args.bs.now in
    rw (
      eq-eqb _ _ c.if-bs-ne0.false,
      le-leb _ _ c.if-n-lt1.false,
      le-leb _ _
          c.if-n-gt-NODES.false,
      tree_height (pile (nodes bs)),
      ← c.height.ensures,
    )
