-- `text_tokens::single` meets its contract: what is neither `<` nor `>` is looked for among the spellings. Assumes nothing.
use mathlib.Core.Path.{◌∙◌, ap}
use Rattle.std.proofs.Common.{rules}
use Rattle.text_tokens.specs.Next.{BAD, part}
use Rattle.text_tokens.specs.Parts.{found, spellings, SPELLED}
use Rattle.text_tokens.specs.Found.{single_found}
use Rattle.text_semantics.specs.Token as K
use Rattle.text_tokens.proofs.single.Goals as goal

pub returns-in_default : goal.returns-in_default
returns-in_default c = c.unwrap_or.ensures ∙ c.find.ensures BAD ∙ ap (found K.LP BAD (part K.LP SPELLED spellings)) c.from.ensures
    ∙ search (rules, single_found)
