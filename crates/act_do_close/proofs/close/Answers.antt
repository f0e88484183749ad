-- `act_do_close::close` meets its contract: the line comes first, then the changes. Assumes nothing.
use native.Mathlib.Omega.{arith}
use Rattle.act_floor.specs.Onward.{shown, low, passing}
use Rattle.act_do_close.proofs.Between.{closing}
use Rattle.act_do_close.proofs.Steps.{closed}
use Rattle.act_do_close.proofs.close.Goals as goal

pub note-requires : goal.note-requires
note-requires c = let v = c.requires.on in
    (shown v (low v), (omega (arith, c.requires.roomy), omega arith))

pub past-requires : goal.past-requires
past-requires c = passing c.requires.on

pub set_closed-requires : goal.set_closed-requires
set_closed-requires c = let v = c.requires.on in
    closing v (c.past.ensures (passing v))

pub returns : goal.returns
returns c = λ v.
    let d = closing v (c.past.ensures (passing v)) in
    closed v (c.set_closed.ensures d) _ _ (c.note.ensures (shown v (low v)))
