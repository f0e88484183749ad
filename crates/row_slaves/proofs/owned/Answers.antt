-- `row_slaves::owned` meets its contract: the words of the row are the process's slaves. Assumes nothing.
use native.Mathlib.Omega.{arith}
use mathlib.Core.Path.{◌∙◌, ap}
use Rattle.row_slaves.specs.Slaves.{owned_of}
use Rattle.row_slaves.proofs.Standing.{is_long, count_few, row_long, slaves_are}
use Rattle.row_slaves.proofs.owned.Goals as goal

pub word-many-requires : goal.word-many-requires
word-many-requires c = let v = c.requires in (is_long v, (v.given, omega arith))

pub slice_bounds-count_of-end : goal.slice_bounds-count_of-end
slice_bounds-count_of-end c = let v = c.requires in omega (arith, is_long v, v.given)

pub count_of-requires : goal.count_of-requires
count_of-requires c = let v = c.requires in
    omega (arith, c.word-many.ensures, count_few v _ v.given, row_long v _ v.given)

pub returns : goal.returns
returns c = λ v. c.count_of.ensures ∙ ap (owned_of _) (slaves_are v _ v.given _ c.word-many.ensures)
