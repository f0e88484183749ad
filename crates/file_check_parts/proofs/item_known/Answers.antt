-- `file_check_parts::item_known` meets its contract. Assumes nothing.
use Prim.Native.Nat.{◌+◌}
use mathlib.Core.Path.{sym}
use Rattle.file_check_parts.proofs.Laws.{past_counts}
use Rattle.file_check_parts.proofs.item_known.Goals as goal

pub returns-then-group-lt-MANY : goal.returns-then-group-lt-MANY
returns-then-group-lt-MANY c = rw (c.u16_at-number.ensures.0, c.u8_at.ensures.0)

pub returns : goal.returns
returns c = sym (rw (← c.u8_at.ensures.0, ← c.u16_at-number.ensures.0) (past_counts
    c.args.n (c.u8_at.result + 1) c.u16_at-number.result
    c.well_formed.0.1.0.1 c.if-group-lt-MANY.false))
