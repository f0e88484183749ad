-- `row_view::word_fits` meets its contract, rule by rule. Assumes nothing.
use mathlib.Core.Path.{sym, ◌∙◌, ap}
use Rattle.row_view.specs.Fits.{passes}
use Rattle.row_view.proofs.word_fits.Goals as goal

pub returns-in-Most : goal.returns-in-Most
returns-in-Most c = ap (λ r. passes r c.args.x) (sym c.in-Most.is)

pub returns-in-Frame : goal.returns-in-Frame
returns-in-Frame c = c.frame_fits.ensures
    ∙ ap (λ r. passes r c.args.x) (sym c.in-Frame.is)

pub returns-in-Notice : goal.returns-in-Notice
returns-in-Notice c = c.notice_fits.ensures
    ∙ ap (λ r. passes r c.args.x) (sym c.in-Notice.is)

pub returns-in-Seed : goal.returns-in-Seed
returns-in-Seed c = ap (λ r. passes r c.args.x) (sym c.in-Seed.is)
