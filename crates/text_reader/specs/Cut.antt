-- The checks at a cut. Assumes nothing.
use Rattle.std.specs.Prelude.{ℕ, List, ltb, set, Result, Ok, Err, if◌then◌else◌}
use Rattle.std.proofs.Math.Option.{Option, none, some}
use Rattle.semantics.specs.Kinds as K
use Rattle.semantics.specs.Decode.{none_seen}

-- How many records of each group are counted before one of that kind.
abbrev pub counts_of : List ℕ → ℕ → List ℕ
counts_of seen kind = if ltb kind K.ACTION then set seen K.BLOCK 0 else set none_seen K.BLOCK 1

-- The place of a limit that is passed, as the machine has it.
abbrev pub cut_of : {A : Type 0} → Result A ℕ → Option ℕ
cut_of (Ok x) = none
cut_of (Err p) = some p
