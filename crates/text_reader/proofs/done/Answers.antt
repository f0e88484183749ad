-- The record is refused, or written down and tested. Assumes nothing.
use Rattle.std.specs.Prelude.{ℕ, ◌≡◌, ◌+◌, ltb, if◌then◌else◌}
use Rattle.std.proofs.Common.{sym, ◌∙◌, ap}
use Rattle.semantics.specs.Numbers as F
use Rattle.text_machine.specs.Machine.{done, over_limit}
use Rattle.text_machine.specs.Sheet.{added, Sheet}
use Rattle.text_reader.proofs.Cuts.{faulty_done, done_declares, done_acts, done_short, done_fit, steps_by}
use Rattle.text_reader.proofs.done.Goals as goal
use Rattle.text_reader.proofs.done.Goals.{then-draft-lt-ACTION, else-draft-lt-ACTION}

pub returns-then-faulty : goal.returns-then-faulty
returns-then-faulty c =
    let z = c.args.sheet.now in
    let d = c.args.draft.now in
    let n = c.sheet.inside.total in
    let total = ap (λ (y : Sheet). y.total) (c.sheet.view_is ∙ c.longer.ensures)
    ∙ ap (λ m. added z.total (4 + m)) (ap (λ y. y.size) c.draft.view_is) in
    let place = c.wrong_place.ensures
    ∙ ap (λ (y : Sheet). if ltb F.longest_file n then y.first else c.draft.inside.line) c.longer.ensures
    ∙ ap (λ (m : ℕ). if ltb F.longest_file n then z.first else m) (ap (λ y. y.line) c.draft.view_is) in
    record {
      cut = faulty_done d z {n = n} total place ∙ ap (over_limit (done d z) d) c.if-faulty.ensures.value;
      same = tt;
      sound = tt;
    }

pub returns : goal.returns
returns c =
    let z = c.args.sheet.now in
    let d = c.args.draft.now in
    let kind : c.draft.inside.kind ≡ d.kind = ap (λ y. y.kind) c.draft.view_is in
    let line : c.draft.inside.line ≡ d.line = ap (λ y. y.line) c.draft.view_is in
    let size = (c.faulty.ensures.right c.if-faulty.false).0 in
    let made : c.if-draft-lt-ACTION.sheet ≡ done d z = elim c.if-draft-lt-ACTION.branch [
      | then-draft-lt-ACTION w ↦ w.sheet-is ∙ w.declares.ensures
          ∙ rw (w.body.ensures.value, kind) (done_declares d z size (rw kind at w.if-draft-lt-ACTION.true))
      | else-draft-lt-ACTION w ↦ w.sheet-is ∙ w.acts.ensures
          ∙ rw (w.body-else-draft-lt-ACTION.ensures.value, kind, line)
          (done_acts d z size (rw kind at w.if-draft-lt-ACTION.false))
    ] in
    steps_by d c.within_limits.result made (c.within_limits.ensures.limits d (sym line)) c.if-faulty.ensures.value
    c.within_limits.ensures.small (done_short d z c.requires.short) (done_fit d z c.requires.fit)
