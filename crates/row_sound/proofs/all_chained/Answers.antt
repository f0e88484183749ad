-- `row_sound::all_chained` meets its contract: turn by turn. Assumes nothing.
use native.Mathlib.Omega.{arith}
use mathlib.Core.Path.{◌∙◌}
use Rattle.row_sound_lists.proofs.Loops.{each_none, each_on, each_done}
use Rattle.row_sound.proofs.Frames.{all_are}
use Rattle.row_sound.proofs.all_chained.Goals as goal

pub loop-p-init : goal.loop-p-init
loop-p-init c = (omega arith, λ v. each_none _)

pub chained-ok-requires : goal.chained-ok-requires
chained-ok-requires c = (c.requires, omega arith)

pub loop-p-preserved : goal.loop-p-preserved
loop-p-preserved c = let l = c.loop-p in
    (omega arith, λ v. each_on _ l.p _ _ (c.chained-ok.ensures v) (l.invariant.1 v))

pub returns : goal.returns
returns c = λ v. let l = c.loop-p in each_done _ l.p _ _ (omega arith) (l.invariant.1 v) ∙ all_are v
