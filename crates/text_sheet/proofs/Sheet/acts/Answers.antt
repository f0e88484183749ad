-- `text_sheet::Sheet::acts` meets its contract. Assumes nothing.
use Rattle.std.proofs.Common.{ap, ◌∙◌}
use Rattle.text_machine.specs.Sheet as M
use Rattle.text_machine.specs.Sheet.{headed}
use Rattle.text_sheet.proofs.Sheet.acts.Goals as goal

pub returns : goal.returns
unfolding M.acts
returns c = let a = c.args in
    c.stands.ensures ∙ ap (M.stands a.kind a.body.now) (c.counts.ensures a.kind a.body.now)
