-- `row_sound_lists::living` meets its contract: its tests together. Assumes nothing.
use Rattle.row_sound_lists.proofs.living.Goals as goal

pub returns : goal.returns
returns c = rw (c.alike.ensures, c.slaves_known.ensures, c.word.ensures, c.word-number.ensures)
