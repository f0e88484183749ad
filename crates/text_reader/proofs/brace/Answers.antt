-- The record is refused, or written down and tested. Assumes nothing.
use Rattle.std.specs.Prelude.{ℕ, ◌≡◌, ltb, if◌then◌else◌}
use Rattle.std.proofs.Common.{sym, ◌∙◌, ap}
use Rattle.semantics.specs.Numbers as F
use Rattle.text_machine.specs.Machine.{over_limit}
use Rattle.text_machine.specs.Sheet.{opens}
use Rattle.text_sheet.specs.Fit.{fit_opens}
use Rattle.text_reader.proofs.Cuts.{faulty_opens, opens_by, opens_short, steps_by}
use Rattle.text_reader.proofs.brace.Goals as goal

pub returns-then-faulty : goal.returns-then-faulty
returns-then-faulty c =
    let z = c.args.sheet.now in
    let d = c.args.draft.now in
    let n = c.opened_total-total.result in
    let kind : c.draft.inside.kind ≡ d.kind = ap (λ y. y.kind) c.draft.view_is in
    let size : c.draft.inside.size ≡ d.size = ap (λ y. y.size) c.draft.view_is in
    let place = c.wrong_place.ensures
    ∙ ap (λ (m : ℕ). if ltb F.longest_file n then z.first else m) (ap (λ y. y.line) c.draft.view_is) in
    record {
      cut = faulty_opens d z {n = n} (λ line bs. rw (kind, size) at (c.opened_total-total.ensures line bs)) place
          ∙ ap (over_limit (opens d z) d) c.if-faulty.ensures.value;
      same = tt;
      sound = tt;
    }

pub returns : goal.returns
returns c =
    let z = c.args.sheet.now in
    let d = c.args.draft.now in
    let kind : c.draft.inside.kind ≡ d.kind = ap (λ y. y.kind) c.draft.view_is in
    let line : c.draft.inside.line ≡ d.line = ap (λ y. y.line) c.draft.view_is in
    let size = (c.faulty.ensures.right c.if-faulty.false).0 in
    let made : c.opens.new.self ≡ opens d z =
    c.opens.ensures ∙ rw (c.body.ensures.value, kind, line) (opens_by d z size) in
    steps_by d c.within_limits.result made (c.within_limits.ensures.limits d (sym line)) c.if-faulty.ensures.value
    c.within_limits.ensures.small (opens_short d z (rw c.body.ensures.value at c.body.ensures.bound) c.requires.short)
    (fit_opens d c.requires.fit)
