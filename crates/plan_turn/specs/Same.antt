-- One answer: a turn is told in one way only, with the work, the journal and the text. Assumes nothing.
use Rattle.std.specs.Prelude.{ℕ, ◌≡◌, List}
use Rattle.std.proofs.Common.{sym, ◌∙◌, ap}
use Rattle.semantics.specs.Run.{Ran}
use Rattle.run_limit.specs.declared.Answer.{Answer}
use Rattle.run_limit.specs.Same.{same_answer}
use Rattle.plan_turn.specs.declared.Answered.{Answered}
use Rattle.plan_turn.specs.Turn.{AnsweredAs}

abbrev answered_as : Answer → ℕ → Answered
answered_as a n = record { answer = a; steps = n }

-- The run is one of the record that the `requires` asks for.
pub same_answered : {G : Type 0} (d : G → Ran) (r r' : Answered) (x x' j k k' y y' : List ℕ) → G
    → ((v : G) → AnsweredAs (d v) r x j k y) → ((v : G) → AnsweredAs (d v) r' x' j k' y')
    → (r ≡ r') × ((x ≡ x') × ((k ≡ k') × (y ≡ y')))
same_answered d r r' x x' j k k' y y' v h i =
    let t = h v in
    let u = i v in (
      ap (λ a. answered_as a r.steps) (same_answer r.answer r'.answer (t.answer_is ∙ sym u.answer_is))
          ∙ ap (answered_as r'.answer) (t.steps_are ∙ sym u.steps_are),
      (t.state_is ∙ sym u.state_is, (t.journal_is ∙ sym u.journal_is, t.text_is ∙ sym u.text_is)),
    )
