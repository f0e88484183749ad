-- `run_row::run_row` meets its contract: a refused file or a row that is not sound is turned away, and a sound one is run. Here
-- k is the place after the check, o where it accepts, t after the test of the row, and e where that passes. Assumes nothing.
use mathlib.Core.Path.{sym, ◌∙◌}
use Rattle.run_row.proofs.Decides.{refused_row, passing_by, reads}
use Rattle.run_row.proofs.Moves.{turned_says, opened, ran_says}
use Rattle.run_row.proofs.run_row.Goals as goal

pub returns-then-is_err : goal.returns-then-is_err
returns-then-is_err c = let a = c.check in
    turned_says _ _ _ _ _ c.turned_away.ensures
    (sym (refused_row _ a.result a.ensures _ (sym c.is_err.ensures.value ∙ c.if-is_err.true)))

pub map_of-map-requires : goal.map_of-map-requires
map_of-map-requires c = reads
    (passing_by _ c.check.result c.check.ensures (sym c.is_err.ensures.value ∙ c.if-is_err.false)
    c.shared_slice_known-1.given)

pub sound_of-requires : goal.sound_of-requires
sound_of-requires c = record {
  passing = passing_by _ c.check.result c.check.ensures (sym c.is_err.ensures.value ∙ c.if-is_err.false)
      c.shared_slice_known-1.given;
  map_value = c.map_of-map.ensures;
}

pub returns-then-not-sound_of : goal.returns-then-not-sound_of
returns-then-not-sound_of c = turned_says _ _ _ _ _ c.turned_away-then-not-sound_of.ensures
    (sym c.sound_of.ensures ∙ c.if-not-sound_of.true)

pub run-requires : goal.run-requires
run-requires c = opened
    (passing_by _ c.check.result c.check.ensures (sym c.is_err.ensures.value ∙ c.if-is_err.false)
    c.shared_slice_known-1.given)
    _ c.map_of-map.ensures _
    (sym c.sound_of.ensures ∙ c.if-not-sound_of.false)

pub returns : goal.returns
returns c = ran_says
    (passing_by _ c.check.result c.check.ensures (sym c.is_err.ensures.value ∙ c.if-is_err.false)
    c.shared_slice_known-1.given)
    _ c.map_of-map.ensures _
    (sym c.sound_of.ensures ∙ c.if-not-sound_of.false) _ _ _ _ _ c.run.ensures
