-- What a turn tells: its answer, its steps, and its lines as text. Assumes nothing.
use Rattle.std.specs.Prelude.{◌≡◌, ℕ, List, map}
use Rattle.semantics.specs.Run.{Ran}
use Rattle.semantics.specs.Journal.{written}
use Rattle.semantics.specs.Plan.{print_line}
use Rattle.row_work.specs.Work.{work_of}
use Rattle.run_limit.specs.Ran.{answer_of}
use Rattle.plan_text.specs.Text.{lines_text}
use Rattle.plan_turn.specs.declared.Answered.{Answered}

-- The code's r, the work w', the journal, before and after, and the text tell the run d.
pub record AnsweredAs (d : Ran) (r : Answered) (w' j j' text : List ℕ) : Type 0 where
  pub answer_is : answer_of r.answer ≡ d.answer
  pub steps_are : r.steps ≡ d.steps
  pub state_is : w' ≡ work_of d.state
  pub journal_is : j' ≡ written d.lines j
  pub text_is : text ≡ lines_text (map print_line d.lines)
