-- `plan_turn::slice::turn` meets its contract: its lines fit, and are those of the run. Assumes nothing.
use Rattle.std.proofs.Common.{rules}
use Rattle.plan_text.specs.Writable.{run_writable}
use Rattle.plan_turn.proofs.Turned.{fits_journal, fits_text, answered_lent}
use Rattle.plan_turn.proofs.slice.turn.Goals as goal

pub lines-requires : goal.lines-requires
lines-requires c = let t = c.run-ran.ensures c.requires.fact in record {
  n_in_bounds = fits_journal c.requires.fact _ _ t (search rules);
  n_in_bounds_2 = fits_text c.requires.fact _ _ t c.requires.journal_in_bounds;
}

pub returns : goal.returns
returns c = λ v.
    answered_lent (run_writable v.run.model v.run.fits _ _ v.run.is v.sound) (c.run-ran.ensures v)
    c.number_of.ensures c.lines.ensures
