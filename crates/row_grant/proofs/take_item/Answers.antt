-- `row_grant::take_item` meets its contract: the item is what its bytes say, and each kind has its function. Assumes nothing.
use mathlib.Core.Path.{refl}
use Rattle.row_grant.proofs.Taking.{item_is, told, taken, bin_told, bin_done, slaves_told, slaves_done, nothing_taken}
use Rattle.row_grant.proofs.take_item.Goals as goal

pub take_resource-requires : goal.take_resource-requires
take_resource-requires c = told (item_is c.args.i.now 0 c.read_item-x.ensures c.in-0.is) c.requires.0

pub take_bin-requires : goal.take_bin-requires
take_bin-requires c = bin_told
    (told (item_is c.args.i.now 1 c.read_item-x.ensures c.in-1.is) c.requires.0)

pub claim_slaves-requires : goal.claim_slaves-requires
claim_slaves-requires c = slaves_told
    (told (item_is c.args.i.now 2 c.read_item-x.ensures c.in-2.is) c.requires.0)

pub returns-in-0 : goal.returns-in-0
returns-in-0 c = let e = c.read_item-x.ensures in
    taken (item_is c.args.i.now 0 e c.in-0.is)
    c.take_resource.ensures

pub returns-in-1 : goal.returns-in-1
returns-in-1 c = let e = c.read_item-x.ensures in
    taken (item_is c.args.i.now 1 e c.in-1.is)
    (bin_done c.take_bin.ensures)

pub returns-in-2 : goal.returns-in-2
returns-in-2 c = let e = c.read_item-x.ensures in
    taken (item_is c.args.i.now 2 e c.in-2.is)
    (slaves_done c.claim_slaves.ensures)

pub returns-in_default : goal.returns-in_default
returns-in_default c = let r = c.in_default.in_default-own.rest in
    taken (item_is c.args.i.now _ c.read_item-x.ensures refl)
    (nothing_taken c.args.i.now _ _ _ r.0.0.1 r.0.1 r.1)
