-- `act_req_try_while::request` meets its contract: whoever takes no branch is blocked, and says why. Assumes nothing.
use native.Mathlib.Omega.{arith}
use mathlib.Core.Path.{ap}
use lib.ListN.{length}
use Rattle.act_req_try_while.proofs.Floor.{is_asking, shown, joining, leaving}
use Rattle.act_req_try_while.proofs.Branches.{by_request}
use Rattle.act_req_try_while.proofs.Steps.{request_taken, still_shows, same_out, few_items, request-blocked}
use Rattle.act_req_try_while.proofs.request.Goals as goal

pub take_branch-chosen-requires : goal.take_branch-chosen-requires
take_branch-chosen-requires c = record {
  branching = by_request c.requires.requesting;
  roomy = c.requires.roomy;
}

pub returns-in_default : goal.returns-in_default
returns-in_default c = λ v.
    request_taken v.asked (c.take_branch-chosen.ensures (by_request v))
    c.in_default.is

pub said-value-requires : goal.said-value-requires
said-value-requires c = let v = c.requires.requesting in
    few_items v.asked (c.take_branch-chosen.ensures (by_request v)) c.in-Waits.is v.requests

pub note-requires : goal.note-requires
note-requires c = let v = c.requires.requesting in
    let b = c.take_branch-chosen.ensures (by_request v) in
    let e = c.in-Waits.is in
    let same = ap length (same_out v.asked b e) in
    (shown v.asked (still_shows v.asked b e), (omega (arith, same, c.requires.roomy), omega arith))

pub join_blocked-requires : goal.join_blocked-requires
join_blocked-requires c = let v = c.requires.requesting in
    let b = c.take_branch-chosen.ensures (by_request v) in
    joining v.asked (is_asking v.requests) (still_shows v.asked b c.in-Waits.is)

pub leave_floor-requires : goal.leave_floor-requires
leave_floor-requires c = let v = c.requires.requesting in
    let e = still_shows v.asked (c.take_branch-chosen.ensures (by_request v)) c.in-Waits.is in
    let k = is_asking v.requests in
    leaving v.asked k (c.join_blocked.ensures (joining v.asked k e))

pub returns : goal.returns
returns c = λ v.
    let b = c.take_branch-chosen.ensures (by_request v) in
    let e = c.in-Waits.is in
    let k = is_asking v.requests in
    let shows = still_shows v.asked b e in
    let j = c.join_blocked.ensures (joining v.asked k shows) in
    let f = c.leave_floor.ensures (leaving v.asked k j) in
    request-blocked v.asked b e v.requests f c.said-value.ensures (c.note.ensures (shown v.asked shows))
