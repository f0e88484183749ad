-- `row_lists::notify` meets its contract: the event that enters is the notice's, of now and of the returns' priority.
-- Assumes nothing.
use native.Mathlib.Omega.{arith}
use Rattle.row_process.specs.Process.{at_first}
use Rattle.row_lists.proofs.Events.{long}
use Rattle.row_lists.proofs.Waking.{now_low, notifies}
use Rattle.row_lists.proofs.notify.Goals as goal

pub bounds-w-0 : goal.bounds-w-0
bounds-w-0 c = omega (arith, long (at_first c.requires.doing))

pub key_of-key-requires : goal.key_of-key-requires
key_of-key-requires c = (now_low (at_first c.requires.doing), omega arith)

pub enter-requires : goal.enter-requires
enter-requires c = notifies c.requires c.key_of-key.ensures

pub returns : goal.returns
unfolding notifies
returns c = λ d. c.enter.ensures (notifies d c.key_of-key.ensures)
