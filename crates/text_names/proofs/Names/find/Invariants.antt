-- What is found from the next row on is what is found of all.
use Rattle.std.proofs.Common.{◌≡◌}
use Rattle.std.specs.Prelude.{drop}
use Rattle.text_names.specs.Table.{known_of, known_in, part_of, place_in}
use Rattle.text_names.proofs.Searches.{found_from}
use Rattle.text_names.proofs.Names.find.Given as goal

abbrev pub invariant-loop-i : goal.invariant-loop-i
invariant-loop-i l =
    found_from l.i (known_of l.self.text (drop l.i l.row-items)) l.name ≡ place_in (known_in l.self) (part_of l.self.text l.p l.e)
