-- `act_return::bin_of` meets its contract. Assumes nothing.
use Rattle.act_return.proofs.Bins.{bin_in, bin_is, bin_low}
use Rattle.act_return.proofs.bin_of.Goals as goal

pub bounds-w-i : goal.bounds-w-i
bounds-w-i c = bin_in c.requires

pub returns : goal.returns
returns c = ((λ v. bin_is v), bin_low c.requires)
