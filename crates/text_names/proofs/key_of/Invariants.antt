-- The key so far and the bytes to come give the key of the name.
use Rattle.std.proofs.Common.{◌≡◌, ◌<◌}
use Rattle.std.specs.Prelude.{drop}
use Rattle.text_names.specs.Table.{key_of, keys}
use Rattle.text_names.proofs.key_of.Given as goal

abbrev pub invariant-loop-byte : goal.invariant-loop-byte
invariant-loop-byte l = (l.key < keys) × (key_of l.key (drop l.byte-index l.name) ≡ key_of 0 l.name)
