-- `text_tokens::find` meets its contract: what is found from k on is what is found from `from` on. Assumes nothing.
use Prim.Native.Nat.{ℕ, ◌-◌, ◌≤◌}
use mathlib.Core.Path.{◌≡◌}
use Rattle.text_tokens.specs.Next.{part}
use Rattle.text_tokens.specs.Parts.{spellings, found}
use Rattle.text_tokens.proofs.find.Given as goal

abbrev pub invariant-loop-k : goal.invariant-loop-k
invariant-loop-k l = (l.from ≤ l.k) × (l.k ≤ l.to)
    × ((other : ℕ) → found l.k other (part l.k l.to spellings) l.key ≡ found l.from other (part l.from l.to spellings) l.key)

abbrev pub decreases-loop-k : goal.decreases-loop-k
decreases-loop-k l = l.to - l.k
