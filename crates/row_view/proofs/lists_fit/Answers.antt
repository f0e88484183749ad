-- `row_view::lists_fit` meets its contract: each test is its part. Assumes nothing.
use Rattle.row_view.proofs.Tested.{lists_tested}
use Rattle.row_view.proofs.lists_fit.Goals as goal

pub returns : goal.returns
returns c = lists_tested c.args.syncs c.args.w.now
    c.row_fits-blocked.ensures
    c.row_fits-keys.ensures
    c.row_fits-words.ensures c.waiting_fits-waiting.ensures
