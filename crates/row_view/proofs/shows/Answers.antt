-- `row_view::shows` meets its contract: what the tests say is that the row shows a state. Assumes nothing.
use native.Mathlib.Omega.{arith}
use Rattle.row_view.proofs.Decided.{not_long, shows_decided}
use Rattle.row_view.proofs.shows.Goals as goal

pub returns-then-w-ne-WORDS : goal.returns-then-w-ne-WORDS
returns-then-w-ne-WORDS c = λ m i. not_long m c.args.w.now c.if-w-ne-WORDS.true

pub returns : goal.returns
returns c = shows_decided c.args.resources c.args.bins c.args.syncs c.args.variables c.args.samplers c.requires
    c.args.w.now (omega arith) c.head_fits-head.ensures c.things_fit-things.ensures
    c.lists_fit-lists.ensures c.processes_fit-processes.ensures c.row_fits-seeds.ensures
