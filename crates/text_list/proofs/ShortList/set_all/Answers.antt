-- `text_list::ShortList::set_all` meets its contract. Assumes nothing.
use Rattle.std.proofs.Common.{ap}
use Rattle.text_list.proofs.Edits.{set_all_held}
use Rattle.text_list.proofs.ShortList.set_all.Goals as goal

pub invariant_of-self : goal.invariant_of-self
invariant_of-self g c = let a = c.args in
    (set_all_held c.self.invariant (ap (λ v. v.items) c.self.view_is) a.index a.values.now c.write_at.ensures c.requires).0

pub returns-clause-items : goal.returns-clause-items
returns-clause-items g c = let a = c.args in
    (set_all_held c.self.invariant (ap (λ v. v.items) c.self.view_is) a.index a.values.now c.write_at.ensures c.requires).1
