-- `text_list::remove_at` meets its contract. Assumes nothing.
use Rattle.std.specs.Prelude.{◌-◌, set}
use Rattle.std.proofs.Common.{ap, ◌∙◌}
use Rattle.text_list.proofs.Edits.{moved_down}
use Rattle.text_list.proofs.remove_at.Goals as goal

pub returns : goal.returns
returns g c = let a = c.args in
    ap (λ xs. set xs (a.size - 1) a.blank) c.copy_within.ensures.after
    ∙ moved_down a.cells.now a.size a.index a.blank c.requires.0 c.requires.1
