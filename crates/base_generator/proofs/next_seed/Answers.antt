-- `base_generator::next_seed` meets its contract. Assumes nothing.
use borrow.Author.Rules.{rules}
use Rattle.semantics.specs.Generator.{next_seed}
use Rattle.base_generator.proofs.next_seed.Goals as goal

pub returns : goal.returns
unfolding next_seed
returns c = search rules
