-- `row_sound_lists::alike` meets its contract: turn by turn. Assumes nothing.
use native.Mathlib.Omega.{arith}
use mathlib.Core.Path.{◌∙◌, ap}
use lib.Dec.{eqb}
use Rattle.row_sound_lists.specs.Tests.{one_if}
use Rattle.row_sound_lists.proofs.Loops.{tally_none, tally_on, tally_done}
use Rattle.row_sound_lists.proofs.alike.Goals as goal

pub loop-q-init : goal.loop-q-init
loop-q-init c = (omega arith, omega arith, tally_none _)

pub loop-q-preserved : goal.loop-q-preserved
loop-q-preserved c = let l = c.loop-q in
    let e = c.one_if-found.ensures.0 ∙ ap (λ x. one_if (eqb c.args.number x)) c.word.ensures in
    (omega arith, omega (arith, c.one_if-found.ensures.1), tally_on _ l.q _ _ e l.invariant.2)

pub returns : goal.returns
returns c = let l = c.loop-q in tally_done _ l.q _ _ (omega arith) l.invariant.2
