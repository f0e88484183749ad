-- What a turn tells where its text is put at the front of lent bytes: the number of its answer, its steps, and its lines as text;
-- and that this is one answer, with the work, the journal and the bytes. Assumes nothing.
use Rattle.std.specs.Prelude.{ℕ, ◌≡◌, List, map}
use Rattle.std.proofs.Common.{sym, ◌∙◌, ap}
use Rattle.semantics.specs.Run.{Ran}
use Rattle.semantics.specs.Journal.{written}
use Rattle.semantics.specs.Plan.{print_line}
use Rattle.row_work.specs.Work.{work_of}
use Rattle.run_limit.specs.Ran.{number_of}
use Rattle.plan_text.specs.Text.{lines_text}
use Rattle.plan_text.specs.Put.{Front}
use Rattle.plan_text.specs.Same.{same_front}
use Rattle.plan_turn.specs.declared.slice.Answered.{Answered}

-- The code's r, the work w', the journal and the text, each before and after, tell the run d.
pub record AnsweredAs (d : Ran) (r : Answered) (w' j j' out out' : List ℕ) : Type 0 where
  pub answer_is : r.answer ≡ number_of d.answer
  pub steps_are : r.steps ≡ d.steps
  pub state_is : w' ≡ work_of d.state
  pub journal_is : j' ≡ written d.lines j
  pub text_is : Front (lines_text (map print_line d.lines)) out out' r.bytes

abbrev answered_as : ℕ → ℕ → ℕ → Answered
answered_as a n b = record { answer = a; steps = n; bytes = b }

-- The run is one of the record that the `requires` asks for.
pub same_answered : {G : Type 0} (d : G → Ran) (r r' : Answered) (x x' j k k' out y y' : List ℕ) → G
    → ((v : G) → AnsweredAs (d v) r x j k out y) → ((v : G) → AnsweredAs (d v) r' x' j k' out y')
    → (r ≡ r') × ((x ≡ x') × ((k ≡ k') × (y ≡ y')))
same_answered d r r' x x' j k k' out y y' v h i =
    let t = h v in
    let u = i v in
    let f = same_front _ out y y' r.bytes r'.bytes t.text_is u.text_is in (
      ap (λ a. answered_as a r.steps r.bytes) (t.answer_is ∙ sym u.answer_is)
          ∙ ap (λ n. answered_as r'.answer n r.bytes) (t.steps_are ∙ sym u.steps_are)
          ∙ ap (answered_as r'.answer r'.steps) f.0,
      (t.state_is ∙ sym u.state_is, (t.journal_is ∙ sym u.journal_is, f.1)),
    )
