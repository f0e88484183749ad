-- `text_entry::insert_node`: so many zeros stand there. Assumes nothing.
use Rattle.std.specs.Prelude.{◌≡◌, ◌++◌, take, drop, replicate}
use Rattle.text_entry.proofs.insert_node.Given as goal

abbrev pub invariant-loop-zeros : goal.invariant-loop-zeros
invariant-loop-zeros l =
    l.body.items ≡ take l.at l.fn.body.items ++ (replicate l.zeros 0 ++ drop l.at l.fn.body.items)
