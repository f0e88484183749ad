-- `base_places::living_count` meets its contract: the digits are counted place by place. Assumes nothing.
use lib.Count.{ones, ones-le}
use mathlib.Core.Path.{ap, ◌∙◌}
use Rattle.base_places.proofs.Laws.{all_living}
use Rattle.base_places.proofs.living_count.Goals as goal

pub returns : goal.returns
returns c = (λ ps h. ap ones h.digits ∙ all_living ps, ones-le 64 c.args.living c.ranges.living.fits)
