-- `row_slaves::claim_one` meets its contract: it leaves its list, and then joins the slaves. Assumes nothing.
use Rattle.row_slaves.proofs.Claiming.{takes_first, adds_it, is_claimed}
use Rattle.row_slaves.proofs.claim_one.Goals as goal

pub take_waiting-place-requires : goal.take_waiting-place-requires
take_waiting-place-requires c = takes_first c.requires

pub add_slave-requires : goal.add_slave-requires
add_slave-requires c = let d = c.requires in
    adds_it d (c.take_waiting-place.ensures (takes_first d))

pub returns : goal.returns
returns c = λ d. let t = c.take_waiting-place.ensures (takes_first d) in
    is_claimed d t c.add_slave.ensures
