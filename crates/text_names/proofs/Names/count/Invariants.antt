-- Those found and those that are still to come are all.
use Rattle.std.proofs.Common.{◌≡◌, ◌+◌, ◌≤◌}
use Rattle.std.specs.Prelude.{drop}
use Rattle.text_names.specs.Rows.{how_many}
use Rattle.text_names.proofs.Names.count.Given as goal

abbrev pub invariant-loop-row : goal.invariant-loop-row
invariant-loop-row l =
    (l.found ≤ l.row-index) × (l.found + how_many l.kind (drop l.row-index l.row-items) ≡ how_many l.kind l.row-items)
