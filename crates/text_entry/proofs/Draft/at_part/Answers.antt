-- `text_entry::Draft::at_part` meets its contract. Assumes nothing.
use Rattle.std.proofs.Common.{refl, sym, ap, ◌∙◌}
use Rattle.text_semantics.specs.Reading.{comma}
use Rattle.text_machine.specs.Entry as M
use Rattle.text_machine.specs.Entry.{put}
use Rattle.text_machine.specs.Codes.{token_of}
use Rattle.text_entry.specs.At.{part_other}
use Rattle.text_entry.proofs.Draft.at_part.Goals as goal

pub returns-in-3 : goal.returns-in-3
unfolding M.drafted
returns-in-3 c n k p x kept = let a = c.args in
    rw c.in-3.is
    (c.at_more.ensures comma refl ∙ ap (λ s. M.at_more comma s a.self.now) (c.mark_in.ensures a.value x))

pub returns-in_default : goal.returns-in_default
unfolding M.drafted
returns-in_default c n k p x kept = let r = c.in_default.in_default-own.rest in
    let a = c.args in
    let q = part_other n a.part r.0.0.1 r.0.1 r.1 in
    c.at_more-in_default.ensures q.0 q.1 ∙ ap (λ s. M.at_more q.0 s a.self.now) (c.mark_in-in_default.ensures a.value x)
    ∙ ap (λ s. M.drafted a.w a.i k p kept s (token_of a.kind a.value x) a.self.now) (sym q.2)
