-- What a reader loses where a read fails. Assumes nothing.
use Rattle.std.specs.Prelude.{ℕ, ◌<◌, List, length}
use Rattle.std.specs.declared.option.Option.{Option}
use Rattle.std.specs.Io.KnownBytes.{Consumes}

-- Of the known bytes the first go, fewer than n.
abbrev pub LosesUnder : ℕ → Option (List ℕ) → Option (List ℕ) → Type 0
LosesUnder n old new = (bs : List ℕ) × (length bs < n) × Consumes old new bs
