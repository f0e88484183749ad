-- Where it is found, what is found; else nothing.
use Rattle.std.proofs.Common.{sym, ◌∙◌}
use Rattle.text_reader.proofs.Finds.{known_some, known_none}
use Rattle.text_reader.proofs.known_as.Goals as goal

pub returns-in-Some : goal.returns-in-Some
returns-in-Some c = λ ks x e. let k = known_some ks x c.in-Some.own (sym e ∙ c.in-Some.is) in (k.0, k.1.0)

pub returns-in-None : goal.returns-in-None
returns-in-None c = λ ks x e. let k = known_none ks x (sym e ∙ c.in-None.is) in (k.0, k.1.0)
