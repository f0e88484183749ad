-- `row_lists::put_back` meets its contract. Assumes nothing.
use native.Mathlib.Omega.{arith}
use mathlib.Core.Path.{◌∙◌, ap}
use lib.ListN.{set}
use Rattle.row_work.specs.Head.{clock_set}
use Rattle.row_process.specs.Process.{at_first}
use Rattle.row_lists.proofs.Events.{long}
use Rattle.row_lists.proofs.Leaving.{puts_back}
use Rattle.row_lists.proofs.put_back.Goals as goal

pub put_event-requires : goal.put_event-requires
put_event-requires c = puts_back c.requires

pub bounds-w-0 : goal.bounds-w-0
bounds-w-0 c = omega (arith, long (at_first c.requires.doing))

pub returns : goal.returns
unfolding puts_back
returns c = λ d.
    ap (λ l. set l 0 c.args.clock)
    (c.put_event.ensures (puts_back d))
    ∙ clock_set _ _
