-- `run_row::open_row` meets its contract: the check refuses, the row has another length, or the fresh work is laid into it.
-- Assumes nothing.
use Rattle.std.proofs.lemmas.Result.{err_from_is_err_and}
use Rattle.run_row.proofs.Decides.{passing, reads, loaded}
use Rattle.run_row.proofs.Opens.{refused_opens, unfit_opens, fresh_opens}
use Rattle.run_row.proofs.open_row.Goals as goal

pub returns-in_err-check : goal.returns-in_err-check
returns-in_err-check c = let p = err_from_is_err_and c.from_residual.result c.from_residual.ensures.1 in
    rw (p.1, p.2) (refused_opens _ _ c.in_err-check.ensures _)

pub returns-then-w-ne-WORDS : goal.returns-then-w-ne-WORDS
returns-then-w-ne-WORDS c = unfit_opens
    (passing _ c.in_ok-check.ensures c.shared_slice_known-1.given)
    _ c.if-w-ne-WORDS.true

pub map_of-map-requires : goal.map_of-map-requires
map_of-map-requires c = reads
    (passing _ c.in_ok-check.ensures c.shared_slice_known-1.given)

pub fresh-requires : goal.fresh-requires
fresh-requires c = loaded
    (passing _ c.in_ok-check.ensures c.shared_slice_known-1.given)
    _ c.map_of-map.ensures

pub returns : goal.returns
returns c = rw c.copy_words.ensures
    (fresh_opens
    (passing _ c.in_ok-check.ensures c.shared_slice_known-1.given)
    _ c.if-w-ne-WORDS.false _ c.map_of-map.ensures _ c.fresh.ensures)
