-- `row_sound_lists::return_fits` meets its contract: part by part of the word. Assumes nothing.
use Rattle.row_sound_lists.proofs.return_fits.Goals as goal

pub returns : goal.returns
returns c = rw (c.amount_of-amount.ensures.0, c.giver_of-giver.ensures, c.number_of.ensures.0)
