-- `row_lists::blocked_at` meets its contract: the place is the low part of the word. Assumes nothing.
use native.Mathlib.Omega.{arith}
use Rattle.row_lists.proofs.Queues.{place_at}
use Rattle.row_lists.proofs.Waiting.{blocked_queue}
use Rattle.row_lists.proofs.blocked_at.Goals as goal

pub bounds-w-k : goal.bounds-w-k
bounds-w-k c = let v = c.requires in omega (arith, (blocked_queue v).long, v.sized.blocked_ok.few, v.given)

pub returns : goal.returns
returns c = ((λ v. place_at (blocked_queue v) _ v.given), omega arith)
