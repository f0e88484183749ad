-- `row_lists::return_resource` meets its contract. Assumes nothing.
use native.Mathlib.Omega.{arith}
use Rattle.row_lists.proofs.Waking.{notice_low}
use Rattle.row_lists.proofs.return_resource.Goals as goal

pub pack-requires : goal.pack-requires
pack-requires c = let k = notice_low _ c.requires in (omega arith, (omega arith, (omega arith, omega arith)))

pub returns : goal.returns
returns c = λ d.
    c.notify.ensures (record { notice = _; word_is = c.pack.ensures; doing = d })
