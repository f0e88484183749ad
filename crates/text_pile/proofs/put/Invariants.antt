-- Those that came so far stand there.
use Rattle.std.proofs.Common.{◌≡◌}
use Rattle.std.specs.Prelude.{◌++◌, map, take}
use Rattle.text_pile.specs.Table.{deeper_by}
use Rattle.text_pile.proofs.put.Given as goal

abbrev pub invariant-loop-symbol : goal.invariant-loop-symbol
invariant-loop-symbol l = l.symbols.items ≡ l.initial.symbols.items ++ map (deeper_by l.by) (take l.symbol-index l.next)
