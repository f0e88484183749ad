-- `text_sheet::Sheet::pieces` meets its contract. Assumes nothing.
use Rattle.std.specs.Prelude.{length}
use Rattle.std.proofs.Common.{sym, ap, ◌∙◌}
use Rattle.text_sheet.specs.Pieces.{pieces_length}
use Rattle.text_sheet.proofs.Sheet.pieces.Goals as goal

pub returns : goal.returns
returns c = let i = c.self.inside in
    c.len.ensures.value ∙ sym (pieces_length i.stage.items 0 i.pieces.items) ∙ ap (λ x. length x.pieces) c.self.view_is
