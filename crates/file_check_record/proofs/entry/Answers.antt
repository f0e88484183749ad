-- `file_check_record::entry` meets its contract. Assumes nothing.
use mathlib.Core.Path.{sym}
use Rattle.file_check_record.proofs.Table.{entry_is, row_past, column_none}
use Rattle.file_check_record.proofs.entry.Goals as goal

pub returns-then-k-lt-KINDS : goal.returns-then-k-lt-KINDS
returns-then-k-lt-KINDS c = entry_is c.args.kind c.args.column c.if-k-lt-KINDS.true c.requires

pub returns : goal.returns
returns c = sym (rw (row_past c.args.kind c.if-k-lt-KINDS.false) (column_none c.args.column c.requires))
