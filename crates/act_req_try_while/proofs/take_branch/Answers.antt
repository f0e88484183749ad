-- `act_req_try_while::take_branch` meets its contract: the branch that those in front leave it is granted. Assumes nothing.
use native.Mathlib.Omega.{arith}
use Rattle.act_req_try_while.proofs.Floor.{shown}
use Rattle.act_req_try_while.proofs.Branches.{few, map_long, facing, few_branches, none_taken, one_taken, granting}
use Rattle.act_req_try_while.proofs.take_branch.Goals as goal

pub place_in_front-ahead-requires : goal.place_in_front-ahead-requires
place_in_front-ahead-requires c = let v = c.requires.branching.asked in
    shown v v.acting.running.run.shows

pub choice-chosen-requires : goal.choice-chosen-requires
choice-chosen-requires c = facing c.requires.branching.asked _ c.place_in_front-ahead.ensures

pub returns-in_default : goal.returns-in_default
returns-in_default c = λ v.
    none_taken v.asked _ c.place_in_front-ahead.ensures c.choice-chosen.ensures
    c.in_default.is _ _

pub overflow_cast-n : goal.overflow_cast-n
overflow_cast-n c = let front = c.place_in_front-ahead.ensures in
    let told = c.choice-chosen.ensures in
    omega (arith, few_branches c.requires.branching.asked _ front told c.in-Goes.is)

pub overflow_add-n : goal.overflow_add-n
overflow_add-n c = let front = c.place_in_front-ahead.ensures in
    let told = c.choice-chosen.ensures in
    omega (arith, few_branches c.requires.branching.asked _ front told c.in-Goes.is)

pub note-requires : goal.note-requires
note-requires c = let v = c.requires.branching.asked in
    (shown v v.acting.running.run.shows, (omega (arith, c.requires.roomy), omega arith))

pub branches_from-first-requires : goal.branches_from-first-requires
branches_from-first-requires c = let v = c.requires.branching.asked in
    (map_long v, omega (arith, few v))

pub overflow_add-first : goal.overflow_add-first
overflow_add-first c = let front = c.place_in_front-ahead.ensures in
    let told = c.choice-chosen.ensures in
    let f = few_branches c.requires.branching.asked _ front told c.in-Goes.is in
    omega (arith, f, c.branches_from-first.ensures)

pub grant-requires : goal.grant-requires
grant-requires c = let v = c.requires.branching in
    granting v.asked _ c.place_in_front-ahead.ensures c.choice-chosen.ensures
    c.in-Goes.is c.branches_from-first.ensures _ v.enters_all

pub returns : goal.returns
returns c = λ v.
    let front = c.place_in_front-ahead.ensures in
    let told = c.choice-chosen.ensures in
    let taken = c.in-Goes.is in
    let g = granting v.asked _ front told taken c.branches_from-first.ensures _ v.enters_all in
    one_taken v.asked _ front told taken (c.grant.ensures g) _ _
    (c.note.ensures (shown v.asked v.asked.acting.running.run.shows))
