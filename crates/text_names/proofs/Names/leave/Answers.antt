-- What is retained are the rows that stay.
use Rattle.std.proofs.Common.{rules, ap, ◌∙◌}
use Rattle.arrayvec.proofs.ArrayVecLemmas.{filter-from_retain}
use Rattle.text_names.specs.Table.{known_in}
use Rattle.text_names.specs.Rows.{row_stays, with_rows}
use Rattle.text_names.proofs.Known.{filter_keep, fine_left, known_left}
use Rattle.text_names.proofs.Names.leave.Goals as goal

pub invariant_of-self : goal.invariant_of-self
invariant_of-self c =
    fine_left c.self.inside.text.now row_stays c.self.inside.rows.items c.retain.new.self.items
    (filter-from_retain _ row_stays _ (λ x b f' y called. search rules) _ _ c.retain.ensures.filtered
    ∙ filter_keep row_stays c.self.inside.rows.items) c.self.invariant

pub returns : goal.returns
returns c =
    let e = filter-from_retain _ row_stays _ (λ x b f' y called. search rules) _ _ c.retain.ensures.filtered
    ∙ filter_keep row_stays c.self.inside.rows.items in
    rw (← c.self.view_is)
    (let k = ap (with_rows (record { text = c.self.inside.text.now; rows = c.self.inside.rows.items })) e in
    record { rows = k; known = ap known_in k ∙ known_left _ })
