-- `try_shifts::print_run` ends: each call but the last makes steps, and they are a million at most. Assumes nothing.
use Rattle.std.specs.Prelude.{◌≡◌, ◌*◌, ◌-◌, ◌≤◌, length}
use Rattle.semantics.specs.Numbers as No
use Rattle.base_numbers.specs.Line as Line
use Rattle.try_shifts.proofs.print_run.Given as goal

abbrev pub invariant-loop-steps : goal.invariant-loop-steps
invariant-loop-steps g l = (l.steps ≤ No.plan_steps) × (length l.journal ≡ 2 * Line.BYTES)

abbrev pub decreases-loop-steps : goal.decreases-loop-steps
decreases-loop-steps g l = No.plan_steps - l.steps
