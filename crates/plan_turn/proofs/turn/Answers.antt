-- `plan_turn::turn` meets its contract: its lines fit, and are those of the run. Assumes nothing.
use Rattle.std.proofs.Common.{rules}
use Rattle.plan_text.specs.Writable.{run_writable}
use Rattle.plan_turn.proofs.Turned.{fits_journal, fits_text, answered}
use Rattle.plan_turn.proofs.turn.Goals as goal

pub lines-requires : goal.lines-requires
lines-requires g c = let t = c.run-ran.ensures c.requires.fact in (
  search rules,
  (
    fits_journal c.requires.fact _ _ t (search rules),
    fits_text c.requires.fact _ _ t c.requires.journal_in_bounds,
  ),
)

pub returns : goal.returns
returns g c = λ v.
    answered (run_writable v.run.model v.run.fits _ _ v.run.is v.sound) (c.run-ran.ensures v) c.lines.ensures
