-- `text_entry::Draft::drafted` meets its contract. Assumes nothing.
use Rattle.std.specs.Prelude.{◌-◌, ◌/◌}
use Rattle.std.proofs.Common.{sym, ap, ◌∙◌}
use Rattle.text_machine.specs.Entry as M
use Rattle.text_machine.specs.Entry.{put}
use Rattle.text_machine.specs.Codes as C
use Rattle.text_machine.specs.Codes.{token_of}
use Rattle.text_entry.specs.At.{symbol_part}
use Rattle.text_entry.proofs.Draft.drafted.Goals as goal

pub returns : goal.returns
returns c x = let a = c.args in
    c.at_part.ensures ((a.s - C.EXPRESSION) / C.PARTS) a.k a.p x a.self.now
    ∙ ap (λ s. M.drafted a.w a.i a.k a.p a.self.now s (token_of a.kind a.value x) a.self.now) (sym (symbol_part a.s c.if-s-lt-EXPRESSION.false))
