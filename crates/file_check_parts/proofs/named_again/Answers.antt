-- `file_check_parts::named_again` meets its contract. Assumes nothing.
use Rattle.std.proofs.Common.{sym, ◌∙◌}
use Rattle.file_check_parts.proofs.Chunks.{room, finds, seeks, any_came}
use Rattle.semantics.specs.Record.{same_part}
use Rattle.file_check_parts.proofs.named_again.Goals as goal

pub returns-then-same : goal.returns-then-same
returns-then-same g c =
    let i = c.loop-part.invariant in
    let s = c.in-Some.ensures.steps in
    sym (finds _ _ _ _ _ _ s.0.1.0 (s.0.1.1 ∙ i.0) s.1 (same_part g.P.Listed.kind c.args.x.now) (sym c.if-same.ensures)) ∙ i.2

pub loop-part-preserved : goal.loop-part-preserved
loop-part-preserved g c =
    let i = c.loop-part.invariant in
    let s = c.in-Some.ensures.steps in
    let l = s.0.1.1 ∙ i.0 in (
      s.0.0 ∙ i.0,
      room _ _ _ _ _ _ s.0.1.0 l s.1 i.1,
      sym (seeks _ _ _ _ _ _ s.0.1.0 l s.1 (same_part g.P.Listed.kind c.args.x.now) (sym c.if-same.ensures)) ∙ i.2,
    )

pub returns : goal.returns
returns g c =
    let i = c.loop-part.invariant in
    let e = c.in-None.ensures.steps in
    sym (any_came _ _ _ g.met.P.Part.not_empty i.1 (λ o. rw i.0 at (e o).1.0) (same_part g.P.Listed.kind c.args.x.now)) ∙ i.2
