-- `base_i32::to_twos` meets its contract. Assumes nothing.
use mathlib.Core.Path.{◌∙◌, sym}
use Rattle.base_i32.specs.Laws.{twos-turned}
use Rattle.base_i32.proofs.to_twos.Goals as goal

pub returns : goal.returns
returns c = c.turn.ensures ∙ sym (twos-turned c.args.x c.ranges.x.fits)
