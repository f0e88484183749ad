-- `row_lists::join_blocked` meets its contract: the blocked are one list of those that wait. Assumes nothing.
use Rattle.semantics.specs.State.{join}
use Rattle.row_process.specs.Process.{seen, at_first}
use Rattle.row_lists.proofs.Waiting.{joins_blocked, blocked_joined}
use Rattle.row_lists.proofs.join_blocked.Goals as goal

pub join_at-requires : goal.join_at-requires
join_at-requires c = let d = c.requires in
    joins_blocked _ d (c.waiter_key-key.ensures (seen (at_first d) d.given.in_places))

pub returns : goal.returns
unfolding join joins_blocked
returns c = λ d.
    blocked_joined _ d _ (c.join_at.ensures
    (joins_blocked _ d (c.waiter_key-key.ensures (seen (at_first d) d.given.in_places))))
