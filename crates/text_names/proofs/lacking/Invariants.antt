-- What is left to be looked at gives the answer.
use Rattle.std.proofs.Common.{◌≡◌, ◌≤◌}
use Rattle.std.specs.Prelude.{[], drop}
use Rattle.text_names.specs.Table.{known_of, lacking_class}
use Rattle.text_names.proofs.Searches.{left_lacking}
use Rattle.text_names.proofs.lacking.Given as goal

abbrev pub invariant-loop-row : goal.invariant-loop-row
invariant-loop-row l =
    (l.classes ≤ l.row-index)
    × (left_lacking l.others l.classes (known_of [] (drop l.row-index l.rows)) ≡ lacking_class (known_of [] l.rows))
