-- `act_putr_putb::putb` meets its contract: the return enters where fewer than 64 wait. Assumes nothing.
use Rattle.act_floor.specs.Onward.{shown, low, passing}
use Rattle.act_putr_putb.proofs.Between.{binning}
use Rattle.act_putr_putb.proofs.Steps.{putb_faults, put_to_bin}
use Rattle.act_putr_putb.proofs.putb.Goals as goal

pub returns-requires : goal.returns-requires
returns-requires c = shown c.requires tt

pub returns-then-returns-ge-RETURNS : goal.returns-then-returns-ge-RETURNS
returns-then-returns-ge-RETURNS c = λ v. putb_faults v _ _ _ (c.returns.ensures (shown v tt)) c.if-returns-ge-RETURNS.true

pub number_of-giver-requires : goal.number_of-giver-requires
number_of-giver-requires c = let v = c.requires in
    shown v (low v)

pub past-requires : goal.past-requires
past-requires c = passing c.requires

pub return_bin-requires : goal.return_bin-requires
return_bin-requires c = let v = c.requires in
    binning v (c.returns.ensures (shown v tt)) c.if-returns-ge-RETURNS.false
    (c.number_of-giver.ensures (shown v (low v))) (c.past.ensures (passing v))

pub returns : goal.returns
returns c = λ v.
    let k = c.returns.ensures (shown v tt) in
    let g = c.number_of-giver.ensures (shown v (low v)) in
    let d = binning v k c.if-returns-ge-RETURNS.false g (c.past.ensures (passing v)) in
    put_to_bin v _ _ _ k c.if-returns-ge-RETURNS.false g (c.return_bin.ensures d)
