-- `row_work::keep_seeds` meets its contract. Assumes nothing.
use mathlib.Core.Path.{ap, ◌∙◌}
use mathlib.Core.List.{◌++◌}
use lib.ListN.{take, drop}
use Rattle.base_numbers.specs.Row as Row
use Rattle.base_numbers.specs.Limit as Limit
use Rattle.row_work.specs.Seeds.{seeds_instead}
use Rattle.row_work.proofs.keep_seeds.Goals as goal

pub returns : goal.returns
returns c = let w = c.args.w.now in
    ap (λ y. take Row.SEEDS w ++ (y ++ drop Limit.SAMPLERS (drop Row.SEEDS w))) c.copy_words.ensures
    ∙ seeds_instead w c.requires c.args.seeds
