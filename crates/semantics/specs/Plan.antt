-- What the program `plan` prints of a file, as data (document 01, "The journal and one whole run").
-- Assumes nothing.
use Rattle.std.specs.Prelude.{ℕ, List, map, ℤ}
use Rattle.semantics.specs.Numbers as No
use Rattle.semantics.specs.State.{fresh}
use Rattle.semantics.specs.Walk.{Line}
use Rattle.semantics.specs.Run.{Answer, Ran, endless, run}
use Rattle.semantics.specs.Bound.{Bounded, bound_is}
use Rattle.semantics.specs.Decode.{refused, accepted, decode}

-- Each line as time, process, kind, value.
abbrev pub PrintedLine : Type 0
PrintedLine = ℕ × ℕ × ℕ × ℤ

abbrev pub print_line : Line → PrintedLine
print_line l = (l.time, l.process, l.kind, l.value)

-- A refusal prints only its number and place; else the lines, the answer, the steps, and the bound.
pub data Printed : Type 0 where
  refused_at : ℕ → ℕ → Printed
  ran : List PrintedLine → Answer → ℕ → Bounded → Printed

-- The journal is emptied between calls so that 30 isn't met: its room is endless.
unfoldable pub plan_for : ℕ → List ℕ → Printed
unfolding decode run fresh bound_is
plan_for limit bs =
    elim (decode bs) [
      | refused n p ↦ refused_at n p
      | accepted m ↦
          let r : Ran = run m limit endless (fresh m) in
          ran (map print_line r.lines) r.answer r.steps (bound_is m)
    ]

unfoldable pub plan : List ℕ → Printed
unfolding plan_for
plan bs = plan_for No.plan_steps bs
