-- Whatever the text is, the rows tell the same.
use Rattle.text_names.specs.Lacking.{class_known}
use Rattle.text_names.proofs.Names.lacking.Goals as goal

pub returns : goal.returns
returns c = let v = c.self.inside in
    rw (c.lacking.ensures, c.as_slice.ensures.value, ← c.self.view_is) (class_known v.text.now v.rows.items)
