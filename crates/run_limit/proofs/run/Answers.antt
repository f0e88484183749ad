-- `run_limit::run` meets its contract. The loop's invariant: what is left of the run is a run from the state now. Assumes
-- nothing.
use native.Mathlib.Omega.{arith}
use mathlib.Core.Path.{refl, ◌∙◌}
use Rattle.run_limit.proofs.Turns.{begun, shown, halts, more, one_going, have_left, faults, turned}
use Rattle.run_limit.proofs.run.Goals as goal

pub loop-steps-init : goal.loop-steps-init
loop-steps-init c = (refl, (refl, λ v. begun v _ _))

pub goes_on-requires : goal.goes_on-requires
goes_on-requires c = shown (c.loop-steps.invariant.1.1 c.requires)

pub advance-went-requires : goal.advance-went-requires
advance-went-requires c = let f = c.loop-steps.invariant.1.1 c.requires in record {
  going = one_going f c.goes_on.ensures c.loop-steps-test.true;
  at_in_bounds = have_left f c.goes_on.ensures c.loop-steps-test.true;
}

pub returns-then-went-ne0 : goal.returns-then-went-ne0
returns-then-went-ne0 c = λ v.
    faults (c.loop-steps.invariant.1.1 v) c.goes_on.ensures c.loop-steps-test.true _ _ _ _
    c.advance-went.ensures c.if-went-ne0.true

pub overflow_add-steps : goal.overflow_add-steps
overflow_add-steps c = let m = more (c.loop-steps.invariant.1.1 c.requires) c.goes_on.ensures c.loop-steps-test.true in
    omega (arith, m, c.ranges.limit)

pub overflow_add-lines : goal.overflow_add-lines
overflow_add-lines c = let room =
    let f = c.loop-steps.invariant.1.1 c.requires in
    (turned f c.goes_on.ensures c.loop-steps-test.true _ _ _ _ c.advance-went.ensures c.if-went-ne0.false).room in
    omega (arith, room)

pub loop-steps-smaller : goal.loop-steps-smaller
loop-steps-smaller c = let f = c.loop-steps.invariant.1.1 c.requires in
    omega (arith, more f c.goes_on.ensures c.loop-steps-test.true)

pub loop-steps-preserved : goal.loop-steps-preserved
loop-steps-preserved c = let i = c.loop-steps.invariant in (
  c.w-1.given ∙ i.0,
  (
    c.journal-1.given ∙ i.1.0,
    λ v.
        turned (i.1.1 v) c.goes_on.ensures c.loop-steps-test.true _ _ _ _ c.advance-went.ensures
        c.if-went-ne0.false,
  ),
)

pub halted-requires : goal.halted-requires
halted-requires c = shown (c.loop-steps.invariant.1.1 c.requires)

pub returns : goal.returns
returns c = λ v. halts (c.loop-steps.invariant.1.1 v) c.goes_on.ensures c.loop-steps-test.false c.halted.ensures
