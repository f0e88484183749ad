-- `row_grant::bars_at` meets its contract: who is blocked stands at an action of the map. Assumes nothing.
use native.Mathlib.Omega.{arith}
use Rattle.row_grant.proofs.Facing.{there_is, place_is, its_place, its_barring, bars_is}
use Rattle.row_grant.proofs.bars_at.Goals as goal

pub blocked_at-place-requires : goal.blocked_at-place-requires
blocked_at-place-requires c = there_is c.requires _ (omega arith)

pub action_at-by-requires : goal.action_at-by-requires
action_at-by-requires c = let v = c.requires in
    (its_place v _ (omega arith) _ (place_is v _ (omega arith) _ c.blocked_at-place.ensures.0), v.mapped.long)

pub bars-requires : goal.bars-requires
bars-requires c = let v = c.requires in
    its_barring v _ (omega arith) _ (place_is v _ (omega arith) _ c.blocked_at-place.ensures.0)
    _ c.action_at-by.ensures

pub returns : goal.returns
returns c = λ v. bars_is v _ (omega arith) _ (place_is v _ (omega arith) _ c.blocked_at-place.ensures.0)
    _ c.action_at-by.ensures _ c.bars.ensures
