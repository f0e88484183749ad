-- `act_do_close::do_times` meets its contract: a block of no rounds is passed, another entered. Assumes nothing.
use Rattle.act_floor.specs.Onward.{passing}
use Rattle.act_do_close.proofs.Between.{entering}
use Rattle.act_do_close.proofs.Steps.{done_none, done_some}
use Rattle.act_do_close.proofs.do_times.Goals as goal

pub past-requires : goal.past-requires
past-requires c = passing c.requires

pub returns-then-n-eq0 : goal.returns-then-n-eq0
returns-then-n-eq0 c = λ v.
    done_none v _ _ c.if-n-eq0.true (c.past.ensures (passing v))

pub into-requires : goal.into-requires
into-requires c = entering c.requires c.if-n-eq0.false

pub returns : goal.returns
returns c = λ v.
    let e = c.if-n-eq0.false in
    done_some v _ _ e (c.into.ensures (entering v e))
