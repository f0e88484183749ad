-- What the draft says of its body, or the judgement of that. Assumes nothing.
use Rattle.std.proofs.Common.{sym, ◌∙◌}
use Rattle.text_reader.proofs.Judges.{faulty_full, faulty_judged, right_kind}
use Rattle.text_reader.proofs.faulty.Goals as goal

pub returns-then-draft-clause-value : goal.returns-then-draft-clause-value
returns-then-draft-clause-value c =
    faulty_full c.args.sheet.now c.args.draft.now (rw (← c.draft.view_is) c.if-draft.true)

pub returns-clause-value : goal.returns-clause-value
returns-clause-value c =
    c.is_err.ensures.value
    ∙ faulty_judged c.args.sheet.now c.args.draft.now c.judge.result (rw (← c.draft.view_is) c.if-draft.false)
    (rw (← c.sheet.view_is, ← c.draft.view_is)
    (rw (c.counts_for-counts.ensures, c.body.ensures.value, ← c.draft.view_is) at c.judge.ensures))

pub returns-clause-right : goal.returns-clause-right
returns-clause-right c = λ e. (
  rw (← c.draft.view_is) (sym (c.draft.invariant.kept c.if-draft.false)),
  rw (← c.draft.view_is)
      (right_kind c.counts_for-counts.result c.draft.inside.kind c.body.result.now c.judge.result c.judge.ensures
      (sym c.is_err.ensures.value ∙ e)),
)
