-- `row_sound_lists::waiter_tied` meets its contract: the low part of the word is the place, the rest the key. Assumes nothing.
use Rattle.row_sound_lists.proofs.waiter_tied.Goals as goal

pub returns : goal.returns
returns c = rw c.word-own.ensures
