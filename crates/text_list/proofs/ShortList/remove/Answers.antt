-- `text_list::ShortList::remove` meets its contract. Assumes nothing.
use Rattle.std.specs.Prelude.{◌∷◌, ◌++◌, take, drop, remove}
use Rattle.std.proofs.Common.{ap, ◌∙◌}
use Rattle.text_list.proofs.Edits.{remove_held}
use Rattle.text_list.proofs.ShortList.remove.Goals as goal

pub invariant_of-self : goal.invariant_of-self
invariant_of-self g c = let i = c.self.inside in
    let e = c.remove_at.ensures ∙ ap (λ b. remove (take i.size i.cells) c.args.index ++ b ∷ drop i.size i.cells) c.blank.ensures in
    (remove_held c.self.invariant (ap (λ v. v.items) c.self.view_is) c.args.index e c.requires).0
