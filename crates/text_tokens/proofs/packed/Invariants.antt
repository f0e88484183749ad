-- `text_tokens::packed` meets its contract: the key is that of the bytes from i on. Assumes nothing.
use Rattle.text_tokens.proofs.Turns.{Packing}
use Rattle.text_tokens.proofs.packed.Given as goal

abbrev pub invariant-loop-i : goal.invariant-loop-i
invariant-loop-i l = Packing l.text l.at l.end l.key l.i

abbrev pub decreases-loop-i : goal.decreases-loop-i
decreases-loop-i l = l.i
