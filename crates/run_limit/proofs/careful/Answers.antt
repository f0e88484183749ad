-- `run_limit::careful` meets its contract: the step made aside is undone, or taken over. Assumes nothing.
use mathlib.Core.Path.{refl, ◌∙◌, ap, sym}
use lib.ListN.{length}
use native.Mathlib.Omega.{arith}
use Rattle.semantics.specs.Step.{step as step_of}
use Rattle.run_limit.proofs.Aside.{going_long, undone, taken_over}
use Rattle.run_limit.proofs.careful.Goals as goal

pub copy_words-requires : goal.copy_words-requires
copy_words-requires c = going_long _ _ _ c.requires.going

pub copy_words-requires-then-left-lines : goal.copy_words-requires-then-left-lines
copy_words-requires-then-left-lines c = ap length c.copy_words.ensures ∙ sym c.w-1.given

pub returns-then-left-lines : goal.returns-then-left-lines
returns-then-left-lines c = let kept = c.copy_words-then-left-lines.ensures ∙ c.copy_words.ensures in
    λ v.
    undone (step_of v.running.run.model v.running.run.is) _ _ _ _ _ _ _ _ _ _ (c.step-went.ensures v)
    c.if-left-lines.true kept

pub returns : goal.returns
returns c = λ v.
    taken_over (step_of v.running.run.model v.running.run.is) _ _ _ _ _ _ _ _ _ _ _ (c.step-went.ensures v)
    c.if-left-lines.false c.requires.left_in_bounds.1 refl c.requires.left_in_bounds.0
    (omega (arith, c.if-left-lines.false, c.requires.left_in_bounds.1)) c.copy_from_slice.ensures.after (omega arith)
