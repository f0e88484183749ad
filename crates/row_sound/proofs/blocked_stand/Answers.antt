-- `row_sound::blocked_stand` meets its contract: turn by turn. Assumes nothing.
use native.Mathlib.Omega.{arith}
use mathlib.Core.Path.{◌∙◌}
use Rattle.row_sound_lists.proofs.Loops.{each_none, each_on, each_done}
use Rattle.row_sound.proofs.Frames.{is_bounded, asking, stand_is}
use Rattle.row_sound.proofs.blocked_stand.Goals as goal

pub bounds-w-6 : goal.bounds-w-6
bounds-w-6 c = omega (arith, (is_bounded c.requires.viewed).long)

pub loop-k-init : goal.loop-k-init
loop-k-init c = (omega arith, λ v. each_none _)

pub overflow_add-k : goal.overflow_add-k
overflow_add-k c = let b = is_bounded c.requires.viewed in
    omega (arith, b.long, b.blocked_few)

pub offset_bounds-w-k : goal.offset_bounds-w-k
offset_bounds-w-k c = let b = is_bounded c.requires.viewed in
    omega (arith, b.long, b.blocked_few)

pub bounds-w-k : goal.bounds-w-k
bounds-w-k c = let b = is_bounded c.requires.viewed in
    omega (arith, b.long, b.blocked_few)

pub asks-ok-requires : goal.asks-ok-requires
asks-ok-requires c = asking c.requires _ (omega arith)

pub overflow_add-k-in-loop-k : goal.overflow_add-k-in-loop-k
overflow_add-k-in-loop-k c = omega (arith, (is_bounded c.requires.viewed).blocked_few)

pub loop-k-preserved : goal.loop-k-preserved
unfolding asking
loop-k-preserved c = let l = c.loop-k in
    (omega arith, λ v. each_on _ l.k _ _ (c.asks-ok.ensures (asking v _ (omega arith))) (l.invariant.1 v))

pub returns : goal.returns
returns c = λ v. let l = c.loop-k in each_done _ l.k _ _ (omega arith) (l.invariant.1 v) ∙ stand_is v
