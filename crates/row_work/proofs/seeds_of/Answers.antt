-- `row_work::seeds_of` meets its contract. Assumes nothing.
use mathlib.Core.Path.{◌∙◌}
use Rattle.row_work.specs.Seeds.{seeds_end}
use Rattle.row_work.proofs.seeds_of.Goals as goal

pub returns : goal.returns
returns c = c.copy_words.ensures ∙ seeds_end c.args.w.now c.requires
