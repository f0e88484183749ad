-- `text_list::ShortList::set` meets its contract. Assumes nothing.
use Rattle.std.proofs.Common.{ap}
use Rattle.text_list.proofs.Edits.{set_held}
use Rattle.text_list.proofs.ShortList.set.Goals as goal

pub invariant_of-self : goal.invariant_of-self
invariant_of-self g c = let a = c.args in
    (set_held c.self.invariant (ap (λ v. v.items) c.self.view_is) a.index a.value c.set_at.ensures c.requires).0

pub returns-clause-items : goal.returns-clause-items
returns-clause-items g c = let a = c.args in
    (set_held c.self.invariant (ap (λ v. v.items) c.self.view_is) a.index a.value c.set_at.ensures c.requires).1
