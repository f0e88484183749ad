-- `text_tokens::begin` meets its contract: what is told from `at` on is told from each byte on that is passed. Assumes nothing.
use Prim.Native.Nat.{◌-◌}
use lib.ListN.{length}
use Rattle.text_tokens.proofs.Turns.{Passing}
use Rattle.text_tokens.proofs.begin.Given as goal

abbrev pub invariant-loop-i : goal.invariant-loop-i
invariant-loop-i l = Passing l.text l.at l.i l.comment

abbrev pub decreases-loop-i : goal.decreases-loop-i
decreases-loop-i l = length l.text - l.i
