-- `text_entry::Draft::at_sign` meets its contract. Assumes nothing.
use Rattle.text_entry.proofs.Draft.at_sign.Goals as goal

pub returns-in-29 : goal.returns-in-29
returns-in-29 c = rw c.in-29.is (c.at_bracket.ensures c.args.k)
