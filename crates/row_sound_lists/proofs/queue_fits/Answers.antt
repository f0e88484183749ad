-- `row_sound_lists::queue_fits` meets its contract: its two tests together. Assumes nothing.
use Rattle.row_sound_lists.proofs.queue_fits.Goals as goal

pub returns : goal.returns
returns c = rw (c.rising.ensures, c.waiters_tied.ensures)
