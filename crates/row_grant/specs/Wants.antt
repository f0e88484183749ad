-- An item as its bytes say it. Assumes nothing.
use Rattle.std.specs.Prelude.{List, ℕ}
use Rattle.semantics.specs.Bytes.{u8, u16, u32}
use Rattle.row_grant.specs.declared.Wanted.{Wanted}

abbrev pub wanted_by : List ℕ → Wanted
wanted_by i = record { kind = u8 i 0; number = u16 i 2; amount = u32 i 4 }
