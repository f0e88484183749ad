-- What is still to come leads from the reader now to what the machine answers; the measure is what is left of the text.
use Rattle.std.specs.Prelude.{◌-◌, length}
use Rattle.text_reader.specs.Going.{Reads}
use Rattle.text_reader.proofs.Reader.all_tokens.Given as goal

abbrev pub invariant-tokens : goal.invariant-tokens
invariant-tokens l = Reads l.text l.place l.self

abbrev pub decreases-tokens : goal.decreases-tokens
decreases-tokens l = length l.text - l.place
