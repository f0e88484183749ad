-- What is told is what the row says where the search ended.
use Rattle.std.proofs.Common.{sym}
use Rattle.text_names.proofs.Known.{found_some}
use Rattle.text_names.proofs.Names.look_up.Goals as goal

pub returns : goal.returns
returns c =
    let v = c.self.inside in
    rw (c.deref.ensures.0, ← c.self.view_is)
    (sym (found_some _ v.text.now _ v.rows.items _ (rw (← c.self.view_is) at (sym c.in_ok-place.ensures.value))))
