-- `row_lists::returns` meets its contract: the words tell which events are returns. Assumes nothing.
use native.Mathlib.Omega.{arith}
use mathlib.Core.Path.{◌∙◌}
use Rattle.base_numbers.specs.Row as Row
use Rattle.base_ordered.specs.Shown.{returns_kept}
use Rattle.row_lists.proofs.Events.{long, count_is, words_here, words_here_canon}
use Rattle.row_lists.proofs.returns.Goals as goal

pub bounds-w-5 : goal.bounds-w-5
bounds-w-5 c = omega (arith, long c.requires)

pub slice_bounds-count_returns-end : goal.slice_bounds-count_returns-end
slice_bounds-count_returns-end c = omega (arith, long c.requires)

pub count_returns-requires : goal.count_returns-requires
count_returns-requires c = words_here_canon c.requires

pub returns : goal.returns
returns c = λ v. c.count_returns.ensures.0 ∙ returns_kept v.is.events Row.EVENTS_MOST _ _ (words_here v).are (count_is v)
