-- `run_limit::advance` meets its contract: where there is room for 66 lines, those of the step fit. Assumes nothing.
use native.Mathlib.Omega.{arith}
use Rattle.semantics.specs.Step.{step as step_of}
use Rattle.promises.proofs.Lines.{step_lines}
use Rattle.run_limit.proofs.Aside.{fits_anyway}
use Rattle.run_limit.proofs.advance.Goals as goal

pub returns : goal.returns
returns c = let room = c.if-left-lt-STEP_LINES.false in
    λ v.
    let g = v.running in
    fits_anyway (step_of g.run.model g.run.is) _ _ _ _ _ _ _ _ (c.step.ensures v)
    (λ x e. omega (arith, room, step_lines g.run.model g.run.is g.sound x e))
