-- `row_sound_lists::word_fits` meets its contract: by its kind. Assumes nothing.
use Rattle.std.specs.Prelude.{if◌then◌else◌}
use mathlib.Core.Path.{refl, ◌∙◌, ap}
use lib.Dec.{eqb}
use borrow.Author.Tests.{ne_eqb}
use Rattle.base_ordered.specs.Lines.{kind_of}
use Rattle.row_sound_lists.specs.Tests.{return_fits}
use Rattle.row_sound_lists.proofs.word_fits.Goals as goal

pub returns-then-kind-eq-WAKES : goal.returns-then-kind-eq-WAKES
returns-then-kind-eq-WAKES c = let t = rw c.kind_of-kind.ensures.0 at c.if-kind-eq-WAKES.true in rw t refl

pub returns : goal.returns
returns c = let k = c.kind_of-kind.ensures.0 in
    let a = c.args in
    let e = c.either.ensures ∙ ap (λ x. if eqb x 1 then a.resources else a.bins) k in
    rw (ne_eqb (kind_of a.word) 0 (λ z. c.if-kind-eq-WAKES.false (k ∙ z)))
    (c.return_fits.ensures ∙ ap (λ x. return_fits x a.last a.rank a.word) e)
