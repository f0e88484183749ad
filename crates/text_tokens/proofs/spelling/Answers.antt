-- `text_tokens::spelling` meets its contract: the table has the spellings, as both compute. Assumes nothing.
use mathlib.Core.Path.{refl}
use Rattle.text_tokens.specs.Parts.{spellings}
use Rattle.text_tokens.proofs.spelling.Goals as goal

pub returns : goal.returns
unfolding spellings
returns c = refl
