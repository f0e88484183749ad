-- A step that is made only if its lines fit. Assumes nothing.
use Rattle.std.specs.Prelude.{ℕ, leb, length, if◌then◌else◌}
use Rattle.semantics.specs.Words.{Outcome, ok, fails}
use Rattle.semantics.specs.Numbers as No
use Rattle.semantics.specs.Walk.{Next}

-- There is room for n lines.
abbrev pub fitted : ℕ → Outcome Next → Outcome Next
fitted n (ok x) = if leb (length x.lines) n then ok x else fails No.JOURNAL
fitted n (fails k) = fails k
