-- `base_i32::from_twos` meets its contract. Assumes nothing.
use mathlib.Core.Path.{◌∙◌, sym}
use Rattle.base_i32.specs.Laws.{signed-turned}
use Rattle.base_i32.proofs.from_twos.Goals as goal

pub returns : goal.returns
returns c = c.turn.ensures ∙ sym (signed-turned c.args.n c.ranges.n.fits)
