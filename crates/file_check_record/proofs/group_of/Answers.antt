-- `file_check_record::group_of` meets its contract. Assumes nothing.
use native.Mathlib.Omega.{arith}
use Rattle.file_check_record.proofs.Table.{group_small}
use Rattle.file_check_record.specs.Rows.{column_of}
use Rattle.file_check_record.proofs.group_of.Goals as goal

pub returns : goal.returns
unfolding column_of
returns c = (c.entry.ensures, omega (arith, c.entry.ensures, group_small c.args.kind))
