-- `row_sound_lists::place_fits` meets its contract: by how many blocks there are. Assumes nothing.
use mathlib.Core.Path.{◌∙◌}
use borrow.Author.Tests.{ne_eqb}
use Rattle.row_sound_lists.proofs.place_fits.Goals as goal

pub returns-then-word-eq0 : goal.returns-then-word-eq0
returns-then-word-eq0 c = let t = rw c.word.ensures at c.if-word-eq0.true in rw t c.vacant.ensures

pub returns : goal.returns
returns c = let e = c.word.ensures in
    rw (ne_eqb _ 0 (λ z. c.if-word-eq0.false (e ∙ z))) c.living.ensures
