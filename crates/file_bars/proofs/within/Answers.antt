-- `file_bars::within` meets its contract: the tests are the definition's. Assumes nothing.
use borrow.Author.Rules.{rules}
use Rattle.file_bars.specs.Bits.{bits_in}
use Rattle.file_bars.proofs.within.Goals as goal

pub returns : goal.returns
unfolding bits_in
returns c = search rules
