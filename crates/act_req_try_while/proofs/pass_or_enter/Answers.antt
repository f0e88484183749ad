-- `act_req_try_while::pass_or_enter` meets its contract: whoever takes no branch goes past. Assumes nothing.
use Rattle.act_floor.specs.Onward.{passing_as}
use Rattle.act_req_try_while.proofs.Floor.{here}
use Rattle.act_req_try_while.proofs.Branches.{by_loop}
use Rattle.act_req_try_while.proofs.Steps.{while_taken, still_shows, while_passed}
use Rattle.act_req_try_while.proofs.pass_or_enter.Goals as goal

pub returns-in_default : goal.returns-in_default
returns-in_default c = λ v.
    while_taken v.asked (c.take_branch-chosen.ensures (by_loop v))
    c.in_default.is

pub past-requires : goal.past-requires
past-requires c = let v = c.requires.looping in
    passing_as (here v.asked) (still_shows v.asked (c.take_branch-chosen.ensures (by_loop v)) c.in-Waits.is)

pub returns : goal.returns
returns c = λ v.
    let b = c.take_branch-chosen.ensures (by_loop v) in
    let e = still_shows v.asked b c.in-Waits.is in
    while_passed v.asked b c.in-Waits.is (c.past.ensures (passing_as (here v.asked) e))
