-- `plan::print_run` meets its contract: turn by turn the next piece of the plan is printed, and what is left of a million steps
-- falls; and a writer whose bytes are known was given the front of the plan's text, if no write failed. Assumes nothing.
use Rattle.std.specs.Prelude.{◌≡◌, ◌≤◌, length, take, OnOk}
use Rattle.std.specs.Io.KnownBytes.{Appends}
use Rattle.semantics.specs.Numbers as No
use Rattle.run_limit.specs.Ran.{answer_of}
use Rattle.plan.specs.Printed.{plan_text}
use Rattle.plan.specs.Room.{JOURNAL}
use Rattle.plan.proofs.Opening.{left_of}
use Rattle.plan.proofs.Printing.{PrintedSoFar}
use Rattle.plan.proofs.print_run.Given as goal

abbrev pub invariant-loop-answer : goal.invariant-loop-answer
invariant-loop-answer g l =
    PrintedSoFar l.s l.map.words l.w (answer_of l.answer) l.steps l.at × ((l.steps ≤ No.plan_steps)
    × ((length l.journal ≡ JOURNAL) × OnOk l.went
    (Appends (g.W.Write.contents l.initial.writer) (g.W.Write.contents l.writer) (take l.at (plan_text l.s)))))

abbrev pub decreases-loop-answer : goal.decreases-loop-answer
decreases-loop-answer g l = left_of (answer_of l.answer) l.steps
