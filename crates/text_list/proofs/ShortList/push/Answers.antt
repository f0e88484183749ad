-- `text_list::ShortList::push` meets its contract. Assumes nothing.
use Rattle.std.proofs.Common.{ap}
use Rattle.text_list.proofs.Edits.{push_held}
use Rattle.text_list.proofs.ShortList.push.Goals as goal

pub invariant_of-self : goal.invariant_of-self
invariant_of-self g c = let a = c.args in
    (push_held c.self.invariant (ap (λ v. v.items) c.self.view_is) a.value c.set_at.ensures c.requires).0
