-- `plan::plan` meets its contract: a file that is refused is told in one piece. Assumes nothing.
use Rattle.std.specs.Prelude.{length, OnOk}
use Rattle.std.specs.Io.KnownBytes.{Appends}
use Rattle.std.proofs.Common.{refl, sym, ap, ◌∙◌, subst, zero-add}
use Rattle.plan.proofs.Opening.{has_refusal}
use Rattle.plan.proofs.Printing.{next_refusal, refusal_is}
use Rattle.plan.proofs.plan.Goals as goal

pub print-went-requires-clause-next : goal.print-went-requires-clause-next
print-went-requires-clause-next g c =
    next_refusal _ (has_refusal _ _ _ c.in-Err.ensures) (rw c.number.ensures at (c.as_str.ensures.value ∙ c.refusal-text.ensures)) refl

pub returns-in-Err-clause-bytes : goal.returns-in-Err-clause-bytes
returns-in-Err-clause-bytes g c =
    c.print-went.ensures.at_after ∙ zero-add _
    ∙ ap length
    (sym (refusal_is _ (has_refusal _ _ _ c.in-Err.ensures) (rw c.number.ensures at (c.as_str.ensures.value ∙ c.refusal-text.ensures))))

pub returns-in-Err-clause-written : goal.returns-in-Err-clause-written
returns-in-Err-clause-written g c =
    subst (λ l. OnOk c.print-went.result
    (Appends (g.W.Write.contents c.args.writer.now) (g.W.Write.contents c.print-went.new.writer) l))
    (sym (refusal_is _ (has_refusal _ _ _ c.in-Err.ensures) (rw c.number.ensures at (c.as_str.ensures.value ∙ c.refusal-text.ensures))))
    c.print-went.ensures.written
