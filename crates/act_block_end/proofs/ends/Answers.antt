-- `act_block_end::ends` meets its contract: where nothing is owed, the process is gone and the floor is left. Assumes nothing.
use native.Mathlib.Omega.{arith}
use Rattle.act_block_end.proofs.Leaving.{looked_at, ending, leaving_floor, ended, owed}
use Rattle.act_block_end.proofs.ends.Goals as goal

pub holds_nothing-requires : goal.holds_nothing-requires
holds_nothing-requires c = looked_at c.requires.ends

pub returns-then-not-holds_nothing : goal.returns-then-not-holds_nothing
returns-then-not-holds_nothing c = λ v. owed v c.holds_nothing.ensures (c.if-not-holds_nothing.true) _ _

pub note-requires : goal.note-requires
note-requires c = (looked_at c.requires.ends, (omega (arith, c.requires.roomy), omega arith))

pub end-requires : goal.end-requires
end-requires c = ending c.requires.ends c.holds_nothing.ensures (c.if-not-holds_nothing.false)

pub leave_floor-requires : goal.leave_floor-requires
leave_floor-requires c = let v = c.requires.ends in
    let h = c.holds_nothing.ensures in
    let t = c.if-not-holds_nothing.false in
    leaving_floor v h t (c.end.ensures (ending v h t))

pub returns : goal.returns
returns c = λ v.
    let h = c.holds_nothing.ensures in
    let t = c.if-not-holds_nothing.false in
    let d = leaving_floor v h t (c.end.ensures (ending v h t)) in
    ended v h t (c.leave_floor.ensures d) _ _ (c.note.ensures (looked_at v))
