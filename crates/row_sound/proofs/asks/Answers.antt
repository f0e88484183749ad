-- `row_sound::asks` meets its contract: whoever is in a block stands in its innermost one. Assumes nothing.
use native.Mathlib.Omega.{arith}
use mathlib.Core.Path.{sym, ap}
use Rattle.semantics.specs.Sound.{asks_at}
use Rattle.row_sound.proofs.Frames.{is_bounded, nowhere, top, top_standing}
use Rattle.row_sound.proofs.asks.Goals as goal

pub word-depth-requires : goal.word-depth-requires
word-depth-requires c = let v = c.requires in ((is_bounded v.viewed).long, (v.in_places, omega arith))

pub returns-then-depth-eq0 : goal.returns-then-depth-eq0
returns-then-depth-eq0 c = λ v.
    sym (ap asks_at (nowhere v.viewed c.args.p v.in_places _ c.word-depth.ensures c.if-depth-eq0.true))

pub overflow_add-depth : goal.overflow_add-depth
overflow_add-depth c = let v = c.requires in
    omega (arith, c.word-depth.ensures, (is_bounded v.viewed).depth_few c.args.p v.in_places)

pub word-word-requires : goal.word-word-requires
word-word-requires c = let v = c.requires in
    let few = (is_bounded v.viewed).depth_few c.args.p v.in_places in
    ((is_bounded v.viewed).long, (v.in_places, omega (arith, c.word-depth.ensures, few)))

pub action_in-a-requires : goal.action_in-a-requires
action_in-a-requires c = let v = c.requires in
    let t =
    top v.viewed c.args.p v.in_places v.is_chained _ c.word-depth.ensures c.if-depth-eq0.false _
    c.word-word.ensures in
    (v.viewed.mapped.long, (t.low, omega arith))

pub asks_at-requires : goal.asks_at-requires
asks_at-requires c = let v = c.requires in
    top_standing v.viewed c.args.p v.in_places v.is_chained _ c.word-depth.ensures c.if-depth-eq0.false _
    c.word-word.ensures _ c.action_in-a.ensures

pub returns : goal.returns
unfolding top_standing
returns c = λ v.
    c.asks_at.ensures
    (top_standing v.viewed c.args.p v.in_places v.is_chained _ c.word-depth.ensures c.if-depth-eq0.false _
    c.word-word.ensures _ c.action_in-a.ensures)
