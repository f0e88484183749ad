-- `row_lists::wake` meets its contract: the event that enters is the process's, by its priority and its place. Assumes nothing.
use native.Mathlib.Omega.{arith}
use Rattle.semantics.specs.State.{wake}
use Rattle.row_process.specs.Process.{at_first}
use Rattle.row_lists.proofs.Events.{long}
use Rattle.row_lists.proofs.Waking.{time_low, rank_low, wakes_up}
use Rattle.row_lists.proofs.wake.Goals as goal

pub word-requires : goal.word-requires
word-requires c = let d = c.requires in (long (at_first d), (d.given.in_places, omega arith))

pub key_of-key-requires : goal.key_of-key-requires
key_of-key-requires c = let d = c.requires in (time_low _ d, rank_low _ d c.word.ensures)

pub enter-requires : goal.enter-requires
enter-requires c = let d = c.requires in
    wakes_up _ d _ c.word.ensures c.key_of-key.ensures c.pack.ensures

pub returns : goal.returns
unfolding wake wakes_up
returns c = λ d. c.enter.ensures
    (wakes_up _ d _ c.word.ensures
    c.key_of-key.ensures c.pack.ensures)
