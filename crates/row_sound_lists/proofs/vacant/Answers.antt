-- `row_sound_lists::vacant` meets its contract: three words of the row. Assumes nothing.
use Rattle.row_sound_lists.proofs.vacant.Goals as goal

pub returns : goal.returns
returns c = rw (c.word.ensures, c.word-2.ensures, c.word-3.ensures)
