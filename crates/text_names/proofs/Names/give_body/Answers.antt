-- One field of one row is set.
use Rattle.text_names.proofs.Known.{gives_body}
use Rattle.text_names.proofs.Names.give_body.Goals as goal

pub returns : goal.returns
returns c =
    rw (← c.self.view_is, c.deref_mut.ensures.value)
    (gives_body c.self.inside.text.now c.self.inside.rows.items c.args.place _ (rw (← c.self.view_is) at c.requires))
