-- At first all is left.
use Rattle.std.proofs.Common.{arith}
use Rattle.std.specs.Prelude.{[]}
use Rattle.text_names.specs.Table.{known_of}
use Rattle.text_names.proofs.Searches.{lacks_all}
use Rattle.text_names.proofs.lacking.Goals as goal

pub loop-row-init : goal.loop-row-init
loop-row-init c = (omega arith, lacks_all (known_of [] c.args.rows.now))
