-- `row_sound::sound_in` meets its contract: what is tested of the blocks and beside them is all. Assumes nothing.
use mathlib.Core.Path.{sym, ◌∙◌}
use Rattle.row_sound.proofs.Whole.{counted, chained_all, tests_decide, tests_fail}
use Rattle.row_sound.proofs.sound_in.Goals as goal

pub returns-then-not-all_chained : goal.returns-then-not-all_chained
returns-then-not-all_chained c = λ v.
    tests_fail v.viewed.model v.viewed.is (sym (c.all_chained.ensures v.viewed) ∙ c.if-not-all_chained.true)

pub blocked_stand-requires : goal.blocked_stand-requires
blocked_stand-requires c = let v = c.requires in
    chained_all v (sym (c.all_chained.ensures v.viewed) ∙ c.if-not-all_chained.false)

pub returns : goal.returns
unfolding chained_all counted
returns c = λ v.
    let e = sym (c.all_chained.ensures v.viewed) ∙ c.if-not-all_chained.false in
    rw (c.sound_beside.ensures (counted v), c.blocked_stand.ensures (chained_all v e))
    (tests_decide v.viewed.model v.viewed.is e)
