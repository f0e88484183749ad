-- `text_list::insert_at` meets its contract. Assumes nothing.
use Rattle.std.specs.Prelude.{set}
use Rattle.std.proofs.Common.{ap, ◌∙◌}
use Rattle.text_list.proofs.Edits.{moved_up}
use Rattle.text_list.proofs.insert_at.Goals as goal

pub returns : goal.returns
returns g c = let a = c.args in
    ap (λ xs. set xs a.index a.value) c.copy_within.ensures.after
    ∙ moved_up a.cells.now a.size a.index a.value c.requires.0 c.requires.1
