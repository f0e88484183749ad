-- `row_view::words_fit` meets its contract. The loop's invariant is `Walked`: the test of those passed and of the rest is the
-- whole test. Assumes nothing.
use native.Mathlib.Omega.{arith}
use Rattle.row_view.proofs.Walks.{walk_starts, walk_turn, walk_ends}
use Rattle.row_view.proofs.words_fit.Goals as goal

pub loop-i-init : goal.loop-i-init
loop-i-init c = walk_starts _ _

pub loop-i-preserved : goal.loop-i-preserved
loop-i-preserved c = walk_turn _ _ c.loop-i.invariant (omega arith) c.word_fits-ok.ensures

pub returns : goal.returns
returns c = walk_ends _ _ c.loop-i.invariant (omega arith)
