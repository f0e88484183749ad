-- `row_sound::is_body` meets its contract: turn by turn. Assumes nothing.
use native.Mathlib.Omega.{arith}
use mathlib.Core.Path.{ap}
use lib.Dec.{eqb}
use Rattle.row_sound.proofs.Loops.{among_none, among_on, among_done}
use Rattle.row_sound.proofs.is_body.Goals as goal

pub loop-i-init : goal.loop-i-init
loop-i-init c = (omega arith, among_none _)

pub loop-i-preserved : goal.loop-i-preserved
loop-i-preserved c = let l = c.loop-i in
    (omega arith, among_on _ l.i _ _ (ap (eqb c.args.b) c.number_at.ensures.0) l.invariant.1)

pub returns : goal.returns
returns c = let l = c.loop-i in among_done _ l.i _ _ (omega arith) l.invariant.1
