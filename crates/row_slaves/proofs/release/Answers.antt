-- `row_slaves::release` meets its contract: the row without them, and how many there are then. Assumes nothing.
use native.Mathlib.Omega.{arith}
use mathlib.Core.Path.{◌∙◌}
use Rattle.row_process.specs.Process.{at_first}
use Rattle.row_slaves.proofs.Standing.{is_long, count_few, row_long, let_go_lem, still_long, places_noted}
use Rattle.row_slaves.proofs.release.Goals as goal

pub word-many-requires : goal.word-many-requires
word-many-requires c = let d = c.requires.doing in
    (is_long (at_first d), (d.given.lives.in_places, omega arith))

pub slice_bounds-sort_out-end : goal.slice_bounds-sort_out-end
slice_bounds-sort_out-end c = let d = c.requires.doing in
    omega (arith, is_long (at_first d), d.given.lives.in_places)

pub sort_out-left-requires : goal.sort_out-left-requires
sort_out-left-requires c = let l = c.requires.doing.given.lives.in_places in
    let n = count_few (at_first c.requires.doing) _ l in
    let e = c.word-many.ensures in
    (omega (arith, e, n, row_long (at_first c.requires.doing) _ l), omega (arith, e, n, c.requires.in_bounds))

pub set_word-requires : goal.set_word-requires
set_word-requires c = let d = c.requires.doing in
    let e = c.word-many.ensures in
    (still_long d e c.sort_out-left.ensures, (d.given.lives.in_places, omega arith))

pub returns : goal.returns
returns c = let e = c.word-many.ensures in
    let h = c.sort_out-left.ensures in record {
      done = (λ d. c.set_word.ensures ∙ let_go_lem d e h);
      places_after = (λ d. places_noted d e h);
    }
