-- `act_walk::release` meets its contract. Assumes nothing.
use Rattle.act_walk.proofs.Going.{shown, leaves, is_granted, is_woken, released}
use Rattle.act_walk.proofs.release.Goals as goal

pub clock_of-clock-requires : goal.clock_of-clock-requires
clock_of-clock-requires c = shown c.requires.visiting.walking tt

pub unblock-requires : goal.unblock-requires
unblock-requires c = let g = c.requires in leaves g.visiting _ g.place_is

pub grant-requires : goal.grant-requires
grant-requires c = is_granted c.requires _
    c.unblock.ensures

pub wake-requires : goal.wake-requires
wake-requires c = let g = c.requires in
    is_woken g _ c.unblock.ensures _
    c.grant.ensures _
    (c.clock_of-clock.ensures.0
    (shown g.visiting.walking tt))

pub returns : goal.returns
returns c = λ g. released g _ c.unblock.ensures _ c.grant.ensures _
    (c.clock_of-clock.ensures.0 (shown g.visiting.walking tt)) _ c.wake.ensures
