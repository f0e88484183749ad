-- `row_lists::unblock` meets its contract. Assumes nothing.
use Rattle.row_lists.proofs.Waiting.{leaves_blocked, blocked_left}
use Rattle.row_lists.proofs.unblock.Goals as goal

pub leave_at-requires : goal.leave_at-requires
leave_at-requires c = leaves_blocked _ c.requires

pub returns : goal.returns
unfolding leaves_blocked
returns c = λ d. blocked_left _ d _ (c.leave_at.ensures (leaves_blocked _ d))
