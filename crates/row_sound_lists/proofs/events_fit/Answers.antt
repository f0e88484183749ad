-- `row_sound_lists::events_fit` meets its contract: its two tests together. Assumes nothing.
use Rattle.row_sound_lists.proofs.events_fit.Goals as goal

pub returns : goal.returns
returns c = rw (c.rising.ensures, c.each_event_fits.ensures)
