-- `text_entry::Draft::at_relation` meets its contract. Assumes nothing.
use Rattle.std.specs.Prelude.{[], ◌∷◌}
use Rattle.std.proofs.Common.{ap, ◌∙◌}
use Rattle.text_semantics.specs.Written.{two}
use Rattle.text_machine.specs.Entry as M
use Rattle.text_machine.specs.Entry.{put}
use Rattle.text_entry.specs.Laws.{put-append}
use Rattle.text_entry.proofs.Draft.at_relation.Goals as goal

pub returns : goal.returns
returns c = let v = c.from-variable.result in
    let d = c.args.self.now in
    c.put_two.ensures ∙ ap (λ y. put y (two v)) c.put.ensures ∙ put-append d (c.relation_of.result ∷ []) (two v)
    ∙ ap (λ r. put d (r ∷ two v)) c.relation_of.ensures
    ∙ ap (λ n. put d (M.relation_of c.args.s ∷ two n)) (c.from-variable.ensures ∙ ap (λ x. x.aside) c.self.view_is)
