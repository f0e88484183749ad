-- What is known then is what the row that was added tells.
use Rattle.std.proofs.Common.{ap, ◌∙◌}
use Rattle.text_semantics.specs.Names.{knows}
use Rattle.text_names.specs.Table.{known_in}
use Rattle.text_names.proofs.Known.{known_more}
use Rattle.text_names.proofs.Names.announce.Goals as goal

pub returns-clause-known : goal.returns-clause-known
unfolding knows
returns-clause-known c = ap known_in c.add.ensures ∙ known_more c.args.self.now _ _ _ _
