-- `text_list::ShortList::clear` meets its contract. Assumes nothing.
use Rattle.std.specs.Prelude.{◌++◌, drop, replicate}
use Rattle.std.proofs.Common.{ap, ◌∙◌}
use Rattle.text_list.proofs.Edits.{clear_held}
use Rattle.text_list.proofs.ShortList.clear.Goals as goal

pub invariant_of-self : goal.invariant_of-self
invariant_of-self g c = let i = c.self.inside in
    let e = c.write_blank.ensures ∙ ap (λ b. replicate i.size b ++ drop i.size i.cells) c.blank.ensures in
    (clear_held c.self.invariant (ap (λ v. v.items) c.self.view_is) e).0
