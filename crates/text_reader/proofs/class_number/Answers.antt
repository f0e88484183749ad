-- Where it is found, its number; else nothing.
use Rattle.std.proofs.Common.{sym, ◌∙◌}
use Rattle.text_reader.proofs.Finds.{known_some, known_none}
use Rattle.text_reader.proofs.class_number.Goals as goal

pub returns-in-Some : goal.returns-in-Some
returns-in-Some c = λ ks y e. (known_some ks y c.in-Some.class (sym e ∙ c.in-Some.is)).1.1

pub returns-in-None : goal.returns-in-None
returns-in-None c = λ ks y e. sym (known_none ks y (sym e ∙ c.in-None.is)).1.1
