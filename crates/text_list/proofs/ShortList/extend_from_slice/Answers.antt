-- `text_list::ShortList::extend_from_slice` meets its contract. Assumes nothing.
use Rattle.std.proofs.Common.{ap}
use Rattle.text_list.proofs.Edits.{extend_held}
use Rattle.text_list.proofs.ShortList.extend_from_slice.Goals as goal

pub invariant_of-self : goal.invariant_of-self
invariant_of-self g c = let a = c.args in
    (extend_held c.self.invariant (ap (λ v. v.items) c.self.view_is) a.values.now c.write_at.ensures c.requires).0
