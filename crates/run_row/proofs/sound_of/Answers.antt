-- `run_row::sound_of` meets its contract: a row that shows no state is not sound, and of any other the clauses decide. In what
-- follows x is the place after the counts, o where the row shows a state, and f after the fresh work. Assumes nothing.
use Rattle.run_row.proofs.Decides.{reads, few, shows_nothing, loaded, handed, sound_says}
use Rattle.run_row.proofs.sound_of.Goals as goal

pub counts_of-counts-requires : goal.counts_of-counts-requires
counts_of-counts-requires c = reads c.requires.passing

pub shows-requires : goal.shows-requires
shows-requires c = few c.requires.passing _ c.counts_of-counts.ensures

pub returns-then-not-shows : goal.returns-then-not-shows
returns-then-not-shows c = shows_nothing c.requires.passing _ c.counts_of-counts.ensures _ _ c.shows.ensures
    (c.if-not-shows.true)

pub index_of-index-requires : goal.index_of-index-requires
index_of-index-requires c = reads c.requires.passing

pub fresh-requires : goal.fresh-requires
fresh-requires c = loaded c.requires.passing _ c.requires.map_value

pub sound_in-requires : goal.sound_in-requires
sound_in-requires c = handed c.requires.passing _ c.counts_of-counts.ensures _ _ c.shows.ensures (c.if-not-shows.false)
    _ c.index_of-index.ensures _ c.requires.map_value _ c.fresh.ensures

pub returns : goal.returns
returns c = sound_says c.requires.passing _ c.counts_of-counts.ensures _ _ c.shows.ensures (c.if-not-shows.false)
    _ c.index_of-index.ensures _ c.requires.map_value _ c.fresh.ensures _ c.sound_in.ensures
