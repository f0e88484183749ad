-- `row_lists::place_behind` meets its contract: the limit just above the key finds the place behind its equals. Assumes nothing.
use Rattle.row_lists.proofs.Queues.{here_canon, found}
use Rattle.row_lists.proofs.place_behind.Goals as goal

pub place_below-requires : goal.place_below-requires
place_below-requires c = here_canon c.requires.queue

pub returns : goal.returns
returns c = λ d. found d c.place_below.ensures.0 c.place_below.ensures.1
