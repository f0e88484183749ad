-- `file_check_parts::all_valid` meets its contract. Assumes nothing.
use Rattle.std.proofs.Common.{sym, ◌∙◌}
use Rattle.file_check_parts.proofs.Chunks.{room, turns, all_came}
use Rattle.file_check_parts.proofs.Laws.{and-true}
use Rattle.file_check_parts.proofs.all_valid.Goals as goal

pub loop-part-preserved : goal.loop-part-preserved
loop-part-preserved g c =
    let i = c.loop-part.invariant in
    let s = c.in-Some.ensures.steps in
    let l = s.0.1.1 ∙ i.0 in (
      s.0.0 ∙ i.0,
      room _ _ _ _ _ _ s.0.1.0 l s.1 i.1,
      turns _ _ _ _ _ _ s.0.1.0 l s.1 g.P.Part.is_valid _ _ c.valid-ok.ensures ∙ i.2,
    )

pub returns : goal.returns
returns g c =
    let i = c.loop-part.invariant in
    let e = c.in-None.ensures.steps in
    sym (and-true _ _ (all_came _ _ _ g.met.P.Part.not_empty i.1 (λ o. rw i.0 at (e o).1.0) g.P.Part.is_valid)) ∙ i.2
