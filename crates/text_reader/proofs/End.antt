-- What is answered behind the tokens is what is to be answered; so it is where one stopped the reader.
-- Assumes nothing.
use Rattle.std.specs.Prelude.{ℕ, ◌≡◌, List, length, Result, Err}
use Rattle.std.proofs.Common.{sym, subst, ◌∙◌}
use Rattle.text_semantics.specs.Answer.{Answer, refused, answer}
use Rattle.text_machine.specs.Machine.{machine}
use Rattle.text_answers.specs.Agreeing.{machine_is_answer}
use Rattle.text_reader.specs.declared.Reader.{Reader}
use Rattle.text_reader.specs.declared.refused.Refused.{Refused}
use Rattle.text_reader.specs.Reason.{number_of}
use Rattle.text_reader.specs.Answer.{Says}
use Rattle.text_reader.specs.Going.{Over}
use Rattle.text_reader.specs.End.{Answers, answers_stopped}

module _ {bs out after : List ℕ} {a : Result ℕ Refused} where
  pub answers_text : {m : Reader} → Over bs m → Answers m (length bs) out a after → Says (answer bs (length out)) a out after
  answers_text {m} d x =
      subst (λ (y : Answer). Says y a out after) (sym (d.same (length out)) ∙ machine_is_answer bs (length out)) x

pub stopped_text : (bs : List ℕ) {out : List ℕ} {e : Refused} → ((room : ℕ) → machine bs room ≡ refused (number_of e.reason) e.place)
    → Says (answer bs (length out)) (Err e) out out
stopped_text bs {out} {e} d =
    subst (λ (y : Answer). Says y (Err e) out out) (sym (d (length out)) ∙ machine_is_answer bs (length out))
    (answers_stopped e out)
