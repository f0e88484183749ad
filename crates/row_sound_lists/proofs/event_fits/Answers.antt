-- `row_sound_lists::event_fits` meets its contract: its key has the time and the rank, its word the rest. Assumes nothing.
use Rattle.row_sound_lists.proofs.event_fits.Goals as goal

pub returns : goal.returns
returns c = rw (c.word_fits.ensures, c.word-own.ensures, c.number_of.ensures.0)
