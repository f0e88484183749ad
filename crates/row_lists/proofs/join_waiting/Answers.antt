-- `row_lists::join_waiting` meets its contract: those waiting for a sync are one list of those that wait. Assumes nothing.
use Rattle.semantics.specs.State.{join}
use Rattle.row_process.specs.Process.{seen, at_first}
use Rattle.row_lists.proofs.Waiting.{joins_waiting, waiting_joined}
use Rattle.row_lists.proofs.join_waiting.Goals as goal

pub join_at-requires : goal.join_at-requires
join_at-requires c = let d = c.requires in
    joins_waiting _ _ d (c.waiter_key-key.ensures (seen (at_first d) d.given.lives.in_places))

pub returns : goal.returns
unfolding join joins_waiting
returns c = λ d.
    waiting_joined _ _ d _ (c.join_at.ensures
    (joins_waiting _ _ d
    (c.waiter_key-key.ensures (seen (at_first d) d.given.lives.in_places))))
