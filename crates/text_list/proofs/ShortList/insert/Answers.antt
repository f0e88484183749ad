-- `text_list::ShortList::insert` meets its contract. Assumes nothing.
use Rattle.std.proofs.Common.{ap}
use Rattle.text_list.proofs.Edits.{insert_held}
use Rattle.text_list.proofs.ShortList.insert.Goals as goal

pub invariant_of-self : goal.invariant_of-self
invariant_of-self g c = let a = c.args in
    (insert_held c.self.invariant (ap (λ v. v.items) c.self.view_is) a.index a.value c.insert_at.ensures c.requires.in_bounds c.requires.room).0
