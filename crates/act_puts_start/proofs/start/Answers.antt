-- `act_puts_start::start` meets its contract. Assumes nothing.
use native.Mathlib.Omega.{arith}
use Rattle.act_floor.specs.Onward.{shown}
use Rattle.act_puts_start.proofs.Starting.{o, class_low, offering, is_late, is_short, is_full, ready, block_is}
use Rattle.act_puts_start.proofs.Starting.{giving, passing}
use Rattle.act_puts_start.proofs.Starting.{passed, beginning, has_begun, placed, taking, has_started}
use Rattle.act_puts_start.proofs.start.Goals as goal

pub time_of-time-requires : goal.time_of-time-requires
time_of-time-requires c = let v = c.requires.starting in (shown (o v) tt, omega (arith, v.says.long))

pub returns-then-time-gt-LATEST : goal.returns-then-time-gt-LATEST
returns-then-time-gt-LATEST c = λ v. is_late v (c.time_of-time.ensures (shown (o v) tt)) c.if-time-gt-LATEST.true _ _

pub has_shares-requires : goal.has_shares-requires
has_shares-requires c = offering c.requires.starting

pub returns-then-not-has_shares : goal.returns-then-not-has_shares
returns-then-not-has_shares c = λ v. is_short v (c.time_of-time.ensures (shown (o v) tt)) c.if-time-gt-LATEST.false (c.has_shares.ensures
    (offering v)) (c.if-not-has_shares.true) _ _

pub can_begin-requires : goal.can_begin-requires
can_begin-requires c = shown (o c.requires.starting) tt

pub returns-then-not-can_begin : goal.returns-then-not-can_begin
returns-then-not-can_begin c = λ v. is_full v (c.time_of-time.ensures (shown (o v) tt)) c.if-time-gt-LATEST.false (c.has_shares.ensures
    (offering v)) (c.if-not-has_shares.false) (c.can_begin.ensures (shown (o v) tt))
    (c.if-not-can_begin.true)
    _ _

pub note_start-requires : goal.note_start-requires
note_start-requires c = (shown (o c.requires.starting) tt, (omega (arith, c.requires.roomy), omega (arith, c.u16_at-class.ensures.1)))

pub move_shares-requires : goal.move_shares-requires
move_shares-requires c = let v = c.requires.starting in let y = ready v (c.time_of-time.ensures (shown (o v) tt)) c.if-time-gt-LATEST.false
    (c.has_shares.ensures (offering v)) (c.if-not-has_shares.false) (c.can_begin.ensures
    (shown (o v) tt)) (c.if-not-can_begin.false) in giving v y

pub past-requires : goal.past-requires
past-requires c = let v = c.requires.starting in let y = ready v (c.time_of-time.ensures (shown (o v) tt)) c.if-time-gt-LATEST.false
    (c.has_shares.ensures (offering v)) (c.if-not-has_shares.false) (c.can_begin.ensures
    (shown (o v) tt)) (c.if-not-can_begin.false) in passing v y (c.move_shares.ensures (giving v
    y))

pub body_of-block-requires : goal.body_of-block-requires
body_of-block-requires c = let v = c.requires.starting in omega
    (arith, class_low v, c.u16_at-class.ensures.0, v.says.class_is, v.acting.running.mapped.long)

pub begin-place-requires : goal.begin-place-requires
begin-place-requires c = let v = c.requires.starting in let y = ready v (c.time_of-time.ensures (shown (o v) tt)) c.if-time-gt-LATEST.false
    (c.has_shares.ensures (offering v)) (c.if-not-has_shares.false) (c.can_begin.ensures
    (shown (o v) tt)) (c.if-not-can_begin.false) in let e = passed v y (c.move_shares.ensures
    (giving v y)) c.past.ensures in beginning v y
    (block_is v c.body_of-block.ensures c.u16_at-class.ensures.0)
    e

pub move_shares-requires-2 : goal.move_shares-requires-2
move_shares-requires-2 c = let v = c.requires.starting in let y = ready v (c.time_of-time.ensures (shown (o v) tt)) c.if-time-gt-LATEST.false
    (c.has_shares.ensures (offering v)) (c.if-not-has_shares.false) (c.can_begin.ensures
    (shown (o v) tt)) (c.if-not-can_begin.false) in let e = passed v y (c.move_shares.ensures
    (giving v y)) c.past.ensures in let b = block_is v c.body_of-block.ensures
    c.u16_at-class.ensures.0
    in taking v y (has_begun v y b e c.begin-place.ensures.done) (placed v y b e c.begin-place.ensures.answers)

pub returns : goal.returns
returns c = λ v. let y = ready v (c.time_of-time.ensures (shown (o v) tt)) c.if-time-gt-LATEST.false
    (c.has_shares.ensures
    (offering v)) (c.if-not-has_shares.false) (c.can_begin.ensures (shown (o v) tt)) (c.if-not-can_begin.false) in let e = passed v y (c.move_shares.ensures (giving v y)) c.past.ensures
    in let b = block_is v c.body_of-block.ensures c.u16_at-class.ensures.0 in has_started v y (has_begun
    v y b e c.begin-place.ensures.done) (placed v y b e c.begin-place.ensures.answers)
    c.move_shares-2.ensures
    _ _ (c.note_start.ensures (shown (o v) tt)) c.u16_at-class.ensures.0
