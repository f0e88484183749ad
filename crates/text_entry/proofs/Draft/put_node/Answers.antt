-- `text_entry::Draft::put_node` meets its contract. Assumes nothing.
use Rattle.std.proofs.Common.{ap, ◌∙◌}
use Rattle.text_semantics.specs.Written.{two, four}
use Rattle.text_machine.specs.Entry.{put}
use Rattle.text_entry.specs.Laws.{put-append}
use Rattle.text_entry.proofs.Draft.put_node.Goals as goal

pub returns : goal.returns
returns c = c.put_four.ensures ∙ ap (λ y. put y (four c.args.v)) c.put_two.ensures ∙ put-append _ (two c.args.op) (four c.args.v)
